-- Why a step is refused before anything is read: by what it was given and the numbers of the superblock alone. So it is
-- over any disk.
use Rattle.std.specs.Prelude.{ℕ, ◌≡◌, ◌+◌, ◌*◌, Bool, true, false, ◌&&◌, ◌||◌, not, [], ◌∷◌, length, Option, Some, None}
use Rattle.std.specs.Prelude.{if◌then◌else◌, nat_lt, nat_le, ◌==◌}
use Rattle.nofs_ptrs.specs.Paths.{slot_limit}
use Rattle.nofs_super.specs.declared.superblock.SuperBlock.{SuperBlock}
use Rattle.nofs_history.specs.Search.{first_of}
use Rattle.nofs_history.specs.Refusals.{bad_name, reads_nothing, row}
use Rattle.nofs_history.specs.declared.machine.steps.Step.{Step}
use Rattle.nofs_history.specs.declared.machine.steps.Step.TheVariants as step
use Rattle.nofs_history.specs.declared.machine.replies.Refusal.{Refusal}
use Rattle.nofs_history.specs.declared.machine.replies.Refusal.TheVariants as refusal
use Rattle.nofs_history.specs.declared.machine.replies.Reply.{Reply}
use Rattle.nofs_history.specs.declared.machine.replies.Reply.TheVariants as reply

-- how many slots a file can have
abbrev slots_at : SuperBlock → ℕ
slots_at at = if at.version == 1 then 72 else slot_limit

-- the first rows of a step, which ask nothing of the disk
abbrev pub refused_early : SuperBlock → Step → Option Refusal
refused_early at (step.Look d g name) = bad_name name
refused_early at (step.Make d g name kind) = bad_name name
refused_early at (step.Link d g name i of) = bad_name name
refused_early at (step.Drop d g name) = bad_name name
refused_early at (step.Rename d g old new) = first_of (bad_name old ∷ bad_name new ∷ [])
refused_early at (step.List d g slot) = None
refused_early at (step.Get i g k) = row (nat_le (slots_at at) k) refusal.TooLarge
refused_early at (step.Put i g k place bytes) = first_of (
    row (nat_lt 1024 (place + length bytes) || (length bytes == 0)) refusal.BadRange
    ∷ row (nat_le (slots_at at) k) refusal.TooLarge
    ∷ [])
refused_early at (step.Resize i g size) = row (nat_lt (1024 * slots_at at) size) refusal.TooLarge
refused_early at (step.Stat i g) = None
refused_early at (step.Flush i g) = None
refused_early at (step.SeeInode i) = row ((i == 0) || nat_lt at.inodes i) refusal.BadRange
refused_early at (step.SeeBlock b) = row (nat_le at.blocks b) refusal.BadRange

-- a refusal that needs no disk came by one of them
abbrev pub IsByGiven : SuperBlock → Step → Reply → Type 0
IsByGiven at s r = (why : Refusal) → r ≡ reply.Refused why → reads_nothing why ≡ true → refused_early at s ≡ Some why
