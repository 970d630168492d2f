use Rattle.std.proofs.Common.{◌≡◌, ℕ, List, false, refl}
use Rattle.nofs_history.specs.declared.machine.replies.Reply.{Reply}
use Rattle.nofs_history.specs.declared.machine.replies.Reply.TheVariants as reply
use Rattle.nofs_gen.specs.Tally.{is_bytes_read}
use Rattle.nofs_gen.proofs.tally.is_bytes_read.Goals as goal

-- each other reply has no bytes
none-read : (bytes : List ℕ) (r : Reply) → ((found : List ℕ) → r ≡ reply.Bytes found → ⊥)
    → false ≡ is_bytes_read bytes r
none-read bytes (reply.Bytes found) other = absurd (other found refl)
none-read bytes _ other = refl

pub returns-in_default : goal.returns-in_default
returns-in_default c = none-read c.args.bytes.now c.args.reply.now c.in_default.not-Bytes
