-- A step that reads alone wants for no memory: why it was refused is another reason.
use Rattle.std.proofs.Common.{◌≡◌, ℕ, true, false, refl}
use Rattle.nofs_disk.specs.Disk.{DiskState}
use Rattle.nofs_history.specs.Steps.{is_out_of_memory}
use Rattle.nofs_history.specs.declared.machine.replies.Refusal.{Refusal}
use Rattle.nofs_history.specs.declared.machine.replies.Refusal.TheVariants as refusal
use Rattle.nofs_history.specs.declared.machine.replies.Reply.TheVariants as reply
use Rattle.nofs_state.specs.Cores.Steps.{is_plain}
use Rattle.nofs_state.specs.Inodes.Opened.{OpenFails}
use Rattle.nofs_state.specs.declared.books.maps.Books.{Books}
use Rattle.nofs_state.proofs.OnCores.SafeSteps.{late-plain}
use Rattle.nofs_files.specs.Reads.{FailsByRead, FailsByRow, FileFails}

plain-memory : (why : Refusal) → is_plain why ≡ true → is_out_of_memory (reply.Refused why) ≡ false
plain-memory refusal.OutOfMemory plain = cc plain
plain-memory _ plain = refl

read-memory : (why : Refusal) → why ≡ refusal.ReadFault → is_out_of_memory (reply.Refused why) ≡ false
read-memory why is = λ j. is_out_of_memory (reply.Refused (is j))

-- an inode that was not opened
pub open-memory : (old new : DiskState) (k : Books) (i g : ℕ) (why : Refusal) → OpenFails old new k i g why
    → is_out_of_memory (reply.Refused why) ≡ false
open-memory old new k i g refusal.OutOfMemory fails = absurd fails
open-memory old new k i g _ fails = refl

-- a file that was not opened
pub file-memory : (old new : DiskState) (k : Books) (i g : ℕ) (why : Refusal) → FileFails old new k i g why
    → is_out_of_memory (reply.Refused why) ≡ false
file-memory old new k i g why (FailsByRow late range told) = plain-memory why (late-plain why late)
file-memory old new k i g why (FailsByRead is rose) = read-memory why is
