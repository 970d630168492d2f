-- Over any disk: why a step of a mount was refused, and what it left.
use Rattle.std.specs.Prelude.{◌≡◌, ◌<◌, ◌≤◌, true, false, List, [], ◌∷◌, ◌++◌}
use Rattle.nofs_disk.specs.Disk.{DiskState, IsSameDisk, KeepsCells, KeepsPast, Rose}
use Rattle.nofs_model.specs.Files.{Files}
use Rattle.nofs_history.specs.Since.{agreed_files, files_along}
use Rattle.nofs_history.specs.Faults.{is_fault}
use Rattle.nofs_history.specs.Machine.{is_write_fault, is_refused}
use Rattle.nofs_history.specs.Steps.{is_out_of_memory}
use Rattle.nofs_history.specs.declared.machine.replies.Refusal.TheVariants as refusal
use Rattle.nofs_history.specs.declared.machine.replies.Reply.{Reply}
use Rattle.nofs_history.specs.declared.machine.replies.Reply.TheVariants as reply
use Rattle.nofs_history.specs.declared.machine.history.Claims.{Claims}
use Rattle.nofs_history.specs.declared.machine.history.Entry1.{Entry1}
use Rattle.nofs_history.specs.declared.machine.steps.Step.{Step}
use Rattle.nofs_state.specs.Cores.Early.{IsByGiven}
use Rattle.nofs_state.specs.Cores.FirstRows.{RefusesEarly}
use Rattle.nofs_state.specs.Cores.Steps.{NoOrder}
use Rattle.nofs_state.specs.declared.books.maps.Books.{Books}
use Rattle.nofs_shared.specs.Mount.Invariant.{IsSoundDisk}

-- from the disk and the books before the step to those after it and its entry
pub record StepCauses (old new : DiskState) (k l : Books) (r : Reply) : Type 0 where
  pub disk : IsSameDisk old new
  pub past : KeepsPast old new
  pub later : old.moment ≤ new.moment
  -- a mount in which a write failed serves nothing
  pub stopped : k.stopped ≡ true → is_out_of_memory r ≡ false → r ≡ reply.Refused refusal.Stopped
  pub not_stopped : r ≡ reply.Refused refusal.Stopped → k.stopped ≡ true
  pub read : r ≡ reply.Refused refusal.ReadFault → Rose old.faults new.faults
  pub write : r ≡ reply.Refused refusal.WriteFault → Rose old.faults new.faults × (old.moment < new.moment)
  -- no other answer comes where a call has failed: it was not made again in silence
  pub no_fault : is_fault r ≡ false → new.faults ≡ old.faults
  pub fault : r ≡ reply.Refused refusal.WriteFault → l.stopped ≡ true
  -- every other refusal leaves the cells, and want of memory leaves all but the room for entries
  pub refused : is_refused r ≡ true → is_write_fault r ≡ false → KeepsCells old new
  pub memory : is_out_of_memory r ≡ true → l ≡ record k { history = l.history }

-- BadName, BadRange and TooLarge, over any disk: they come just by what the step was given and by the superblock, while
-- no write has failed
pub record StepGiven (k : Books) (s : Step) (r : Reply) : Type 0 where
  pub only : IsByGiven k.at s r
  pub early : RefusesEarly k s r

-- the mount is open, over a disk that tells and was found sound; these are the machine's files, by the base and the
-- history
abbrev pub MeetsSound : DiskState → DiskState → Books → Files → Type 0
MeetsSound found d k F = IsSoundDisk found × (k.stopped ≡ false)
    × (F ≡ files_along (agreed_files (d.was k.history.start)) k.history.entries)

-- what a step did to the device, by what it claims: it orders no write. K is the history after it
pub record StepOrder (old new : DiskState) (Told : Files → Type 0) (s : Step) (r : Reply)
    (K : List Entry1) : Type 0 where
  pub claims : Claims
  -- they are those of its entry, where it has one
  pub entry : is_out_of_memory r ≡ false → (H : List Entry1) × (e : Entry1) × (K ≡ H ++ e ∷ []) × (e.claims ≡ claims)
  pub order : NoOrder old new Told s claims r
