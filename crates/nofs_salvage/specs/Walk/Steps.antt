-- The steps that a walk makes, and the fault that it ends with.
use Rattle.std.specs.Prelude.{◌≡◌, ℕ, Bool, true, false, ◌&&◌, List, [], ◌∷◌, ◌++◌, All, Option, Some, None, Result, Ok}
use Rattle.std.specs.Prelude.{Err, if◌then◌else◌}
use Rattle.nofs_history.specs.Search.{first_of}
use Rattle.nofs_history.specs.Machine.{is_refused}
use Rattle.nofs_history.specs.Steps.{Made, Fits}
use Rattle.nofs_history.specs.declared.machine.steps.Step.{Step}
use Rattle.nofs_history.specs.declared.machine.steps.Step.TheVariants as step
use Rattle.nofs_history.specs.declared.machine.replies.Reply.{Reply}
use Rattle.nofs_history.specs.declared.machine.replies.Reply.TheVariants as reply
use Rattle.nofs_history.specs.declared.machine.replies.Refusal.{Refusal}
use Rattle.nofs_history.specs.declared.machine.replies.Refusal.TheVariants as refusal
use Rattle.nofs_salvage.specs.declared.report.answers.InodeHandle.{InodeHandle}
use Rattle.nofs_salvage.specs.declared.report.answers.NextSlot.{NextSlot}
use Rattle.nofs_salvage.specs.declared.report.answers.NextSlot.TheVariants as listed
use Rattle.nofs_salvage.specs.declared.report.answers.SlotState.{SlotState}
use Rattle.nofs_salvage.specs.declared.report.answers.SlotState.TheVariants as got
use Rattle.nofs_salvage.specs.declared.report.fault.SalvageFault.{SalvageFault}
use Rattle.nofs_salvage.specs.declared.report.fault.SalvageFault.TheVariants as fault

-- a refusal for want of memory is the fault of that name
abbrev pub fault_by : Refusal → SalvageFault
fault_by refusal.OutOfMemory = fault.OutOfMemory
fault_by why = fault.Refused why

-- the refusal that a fault carries
abbrev pub refusal_in : SalvageFault → Option Refusal
refusal_in (fault.Refused why) = Some why
refusal_in fault.OutOfMemory = None

-- the refusal that a result carries
abbrev pub refusal_by : {A : Type 0} → Result A SalvageFault → Option Refusal
refusal_by (Ok x) = None
refusal_by (Err e) = refusal_in e

-- a step that only reads files and names
abbrev pub IsReadingStep : Step → Type 0
IsReadingStep (step.Look d g name) = Unit {0}
IsReadingStep (step.List d g slot) = Unit {0}
IsReadingStep (step.Stat i g) = Unit {0}
IsReadingStep (step.Get i g slot) = Unit {0}
IsReadingStep _ = ⊥

-- the step reads a slot
abbrev pub is_get : Step → Bool
is_get (step.Get i g slot) = true
is_get _ = false

-- the slot is beyond what a file can have
abbrev pub is_too_large : Refusal → Bool
is_too_large refusal.TooLarge = true
is_too_large _ = false

-- the refusal of a step: that a slot is beyond what a file can have is none
abbrev pub refusal_of : Made → Option Refusal
refusal_of (s, reply.Refused why) = if is_get s && is_too_large why then None else Some why
refusal_of (s, _) = None

-- the first refusal among these steps
abbrev pub first_refusal : List Made → Option Refusal
first_refusal [] = None
first_refusal (m ∷ ms) = first_of (refusal_of m ∷ first_refusal ms ∷ [])

-- from old to new just steps were made that read, and this is their first refusal
pub record MakesReads (old new : List Made) (why : Option Refusal) : Type 0 where
  pub made : List Made
  pub more : new ≡ old ++ made
  pub read : All (λ m. IsReadingStep m.0) made
  pub refused : first_refusal made ≡ why

-- this one step was made, and not refused
pub record IsAccepted (old new : List Made) (s : Step) (r : Reply) : Type 0 where
  pub more : new ≡ old ++ (s, r) ∷ []
  pub fits : Fits s r
  pub accepted : is_refused r ≡ false

-- What the reply to each of them says

abbrev pub found_by : Reply → Result InodeHandle SalvageFault
found_by (reply.Found found) = Ok (record { inode = found.inode; generation = found.generation })
found_by _ = Err fault.OutOfMemory

abbrev pub size_by : Reply → Result ℕ SalvageFault
size_by (reply.Stat stat) = Ok stat.size
size_by _ = Err fault.OutOfMemory

abbrev pub listed_by : Reply → Result NextSlot SalvageFault
listed_by (reply.Names slot names) = Ok (listed.Names slot names)
listed_by (reply.LostNames slot) = Ok (listed.LostNames slot)
listed_by reply.NoMore = Ok listed.NoMore
listed_by _ = Err fault.OutOfMemory

abbrev pub got_by : Reply → Result SlotState SalvageFault
got_by (reply.Bytes bytes) = Ok got.Kept
got_by reply.Hole = Ok got.Kept
got_by reply.Lost = Ok got.Lost
got_by (reply.Refused why) = if is_too_large why then Ok got.NoSlot else Err (fault_by why)
got_by _ = Err fault.OutOfMemory
