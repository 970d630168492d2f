use Rattle.std.proofs.Common.{◌≡◌, None, refl}
use Rattle.nofs_history.specs.declared.machine.replies.Found.{Found}
use Rattle.nofs_history.specs.declared.machine.replies.Reply.{Reply}
use Rattle.nofs_history.specs.declared.machine.replies.Reply.TheVariants as reply
use Rattle.nofs_tool.specs.Drill.{found_in}
use Rattle.nofs_tool.proofs.drill.reads.found_in.Goals as goal

-- each other reply leads to no file
none-found : (r : Reply) → ((f : Found) → r ≡ reply.Found f → ⊥) → None ≡ found_in r
none-found (reply.Found f) other = absurd (other f refl)
none-found _ other = refl

pub returns-in_default : goal.returns-in_default
returns-in_default c = none-found c.args.reply.now c.in_default.not-Found
