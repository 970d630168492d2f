use Rattle.std.proofs.Common.{◌≡◌, ℕ, List, refl}
use Rattle.nofs_history.specs.declared.machine.replies.Reply.{Reply}
use Rattle.nofs_history.specs.declared.machine.replies.Reply.TheVariants as reply
use Rattle.nofs_gen.specs.Tally.{slot_sum}
use Rattle.nofs_gen.proofs.tally.slot_sum.Goals as goal

-- each other reply has no bytes
none-summed : (cut : ℕ) (r : Reply) → ((bytes : List ℕ) → r ≡ reply.Bytes bytes → ⊥) → 0 ≡ slot_sum cut r
none-summed cut (reply.Bytes bytes) other = absurd (other bytes refl)
none-summed cut _ other = refl

pub returns-in_default : goal.returns-in_default
returns-in_default c = none-summed c.args.cut c.args.reply.now c.in_default.not-Bytes
