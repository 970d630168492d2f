use Rattle.std.proofs.Common.{◌≡◌, None, refl}
use Rattle.nofs_history.specs.declared.machine.replies.Reply.{Reply}
use Rattle.nofs_history.specs.declared.machine.replies.Reply.TheVariants as reply
use Rattle.nofs_history.specs.declared.machine.replies.Stat.{Stat}
use Rattle.nofs_tool.specs.Drill.{stat_in}
use Rattle.nofs_tool.proofs.drill.reads.stat_in.Goals as goal

-- each other reply tells no size
none-told : (r : Reply) → ((s : Stat) → r ≡ reply.Stat s → ⊥) → None ≡ stat_in r
none-told (reply.Stat s) other = absurd (other s refl)
none-told _ other = refl

pub returns-in_default : goal.returns-in_default
returns-in_default c = none-told c.args.reply.now c.in_default.not-Stat
