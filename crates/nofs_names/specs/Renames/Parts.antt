-- What Rename asks of its parts, and answers.
use Rattle.std.specs.Prelude.{◌≡◌, ℕ, ◌⊎◌, true, List, IsTrue, Result, Ok, Err, IfOk, IfErr, OnOk}
use Rattle.nofs_disk.specs.Disk.{DiskState, StaysButFaults, Rose, cell_at}
use Rattle.nofs_disk.specs.declared.tag.Pointer.{Pointer}
use Rattle.nofs_super.specs.declared.superblock.SuperBlock.{SuperBlock}
use Rattle.nofs_ptrs.specs.Paths.{path_of}
use Rattle.nofs_model.specs.Slots.{find}
use Rattle.nofs_model.specs.Places.{InArea}
use Rattle.nofs_model.specs.declared.image.path.PathAnswer.{PathAnswer}
use Rattle.nofs_model.specs.declared.image.path.PathAnswer.TheVariants as answer
use Rattle.nofs_history.specs.Steps.{InRange}
use Rattle.nofs_history.specs.declared.machine.replies.Refusal.{Refusal}
use Rattle.nofs_history.specs.declared.machine.replies.Refusal.TheVariants as refusal
use Rattle.nofs_history.specs.declared.machine.replies.Reply.{Reply}
use Rattle.nofs_history.specs.declared.machine.replies.Reply.TheVariants as reply
use Rattle.nofs_agree.specs.Reads.{IsLast}
use Rattle.nofs_agree.specs.declared.reads.LastRead.{LastRead}
use Rattle.nofs_model.specs.Files.{Files}
use Rattle.nofs_history.specs.History.{FilesMatch}
use Rattle.nofs_names.specs.Searches.Slots.{IsFoundEntry}
use Rattle.nofs_names.specs.declared.searches.slots.Paired.{Paired}
use Rattle.nofs_state.specs.Cores.Steps.{is_late}
use Rattle.nofs_names.specs.Searches.Refusals.{IsThere}

-- what stands in a slot that must hold
abbrev pub IsSlotHeld : ℕ → PathAnswer → Result Pointer Refusal → Type 0
IsSlotHeld slot (answer.Holds x) result = result ≡ Ok x
IsSlotHeld slot answer.Hole result = result ≡ Err (refusal.LostSlot slot)
IsSlotHeld slot answer.Lost result = result ≡ Err (refusal.LostSlot slot)

-- why a slot that must hold was not found: it does not hold, or a read failed
abbrev pub HoldFails : DiskState → DiskState → ℕ → ℕ → Refusal → Type 0
HoldFails old new d slot why = ((is_late why ≡ true) × InRange why
    × (IsTrue old.tells → (x : Pointer) → find old.now d (path_of slot) ≡ answer.Holds x
    → ⊥) × (new.faults ≡ old.faults)) ⊎ ((why ≡ refusal.ReadFault) × Rose old.faults new.faults)

pub record HoldsSlot (old new : DiskState) (at : SuperBlock) (d slot : ℕ) (last : LastRead)
    (result : Result Pointer Refusal) : Type 0 where
  pub stays : StaysButFaults old new
  pub no_fault : OnOk result (new.faults ≡ old.faults)
  pub area : IfOk result (λ x. InArea at (answer.Holds x))
  pub held : IfOk result (λ x. IsTrue old.tells → find old.now d (path_of slot) ≡ answer.Holds x)
  pub cell : IfOk result (λ x. IsTrue old.tells → last.cell ≡ cell_at old.now x.block)
  pub kept : OnOk result (IsLast new last)
  pub refused : IfErr result (HoldFails old new d slot)

abbrev pub done_answer : Reply → Result (Unit {0}) Refusal → Reply
done_answer r (Ok done) = r
done_answer r (Err why) = reply.Refused why

-- the pair of a name, over any files that match the disk
abbrev pub FoundIn : DiskState → ℕ → List ℕ → Paired → Type 0
FoundIn old d name p = IsTrue old.tells → IsThere d old.now → (F : Files) → FilesMatch F old.now
    → IsFoundEntry F old.now d name p
