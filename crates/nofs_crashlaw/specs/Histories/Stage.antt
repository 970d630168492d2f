-- What holds between two steps of a history, over the states of a disk, and what each step keeps of it.
use Rattle.std.specs.Prelude.{◌≡◌, ℕ, ◌+◌, ◌<◌, ◌≤◌, true, false, List, [], ◌∷◌, ◌++◌, length, IsTrue, Ok, Contains}
use Rattle.nofs_disk.specs.Disk.{DiskState, IsDisk, IsSettled, StaysButFaults, Flushes, cell_at}
use Rattle.nofs_disk.specs.Moments.{AtEach}
use Rattle.nofs_disk.specs.Adds.{Adds}
use Rattle.nofs_disk.specs.declared.tag.Cell.{Cell}
use Rattle.nofs_model.specs.Geometry.{Image, super_at, is_mountable}
use Rattle.nofs_model.specs.Files.{Files}
use Rattle.nofs_model.specs.Sound.{CellBelow, IsBelow}
use Rattle.nofs_history.specs.Marks.{Mark, mark_at}
use Rattle.nofs_history.specs.Machine.{given_by, files_by}
use Rattle.nofs_history.specs.History.{FilesMatch, NoWriteFault}
use Rattle.nofs_history.specs.Since.{agreed_files, files_along, is_flushed}
use Rattle.nofs_history.specs.Allowed.{IsAllowed}
use Rattle.nofs_history.specs.Steady.{SteadyRest, IsSteady}
use Rattle.nofs_history.specs.Claims.{no_claims}
use Rattle.nofs_history.specs.declared.machine.history.Entry1.{Entry1}
use Rattle.nofs_history.specs.declared.machine.steps.Step.TheVariants as step
use Rattle.nofs_history.specs.declared.machine.replies.Reply.TheVariants as reply
use Rattle.nofs_crashlaw.specs.Images.Reasons.{IsMark}
use Rattle.nofs_crashlaw.specs.Images.Proper.{Proper}
use Rattle.nofs_crashlaw.specs.Images.Moments.{during, AllExplained, IsTracked}

-- the cells that a crash may leave have their reasons since the mark
pub record CellsSurvive (d : DiskState) (L : Mark) : Type 0 where
  pub mark : IsMark L
  pub size : length L.image ≡ d.blocks
  pub explained : AllExplained L d.may

-- the machine's files are those of the disk, and every number on it is below the next one
pub record Ready (d : DiskState) (F : Files) (L : Mark) (s : ℕ) : Type 0 where
  pub files : FilesMatch F d.now
  pub survives : CellsSurvive d L
  pub positive : 0 < s
  pub fresh : (b : ℕ) (c : Cell) → b < (super_at d.now).blocks → Contains (d.may b) c → CellBelow s d.now b c

-- every entry began and ended by this moment
abbrev pub AllBy : List Entry1 → ℕ → Type 0
AllBy [] n = Unit {0}
AllBy (e ∷ es) n = (e.from ≤ n) × (e.to ≤ n) × AllBy es n

-- Whatever has failed: all that a crash may leave is allowed, now and at each moment since the start. B is the disk as
-- the mount's flush left it, with the raised mount number, M the disk as the last flush left it, S a bound above M's
-- stamps
pub record Lasts (B : Image) (H : List Entry1) (M : Image) (S start : ℕ) (d : DiskState) : Type 0 where
  pub size : length M ≡ length B
  pub first : cell_at M 0 ≡ cell_at B 0
  pub by : AllBy H d.moment
  pub survives : CellsSurvive d (mark_at B H (d.moment + 1) M S)
  pub images : AtEach (λ m X. IsAllowed B H m X) start d

-- where no write has failed: the next step may begin. s is the next stamp
pub record Stage (B : Image) (H : List Entry1) (M : Image) (S start s : ℕ) (d : DiskState) : Type 0 where
  pub lasts : Lasts B H M S start d
  pub ready : Ready d (files_along (agreed_files B) H) (mark_at B H (d.moment + 1) M S) s

-- the files before a step
abbrev pub files_now : Image → List Entry1 → Files
files_now B H = files_along (agreed_files B) H

-- a step that does not flush, from one state of a disk that tells to another
pub record IsStep (B : Image) (H : List Entry1) (e : Entry1) (M : Image) (S start s : ℕ)
    (old new : DiskState) : Type 0 where
  pub stage : Stage B H M S start s old
  pub disk : IsDisk old
  pub tells : IsTrue old.tells
  pub from : e.from ≡ old.moment
  pub to : e.to ≡ new.moment
  pub no_flush : is_flushed e.reply ≡ false

-- each cell that it may leave was there before, or is a proper write of what the step gives
abbrev pub AddsProper : Image → List Entry1 → Entry1 → Image → ℕ → DiskState → DiskState → Type 0
AddsProper B H e M S old new =
    Adds (Proper (during (mark_at B H (old.moment + 1) M S) (given_by (files_now B H) e)) old.now) old new

-- A step that adds proper writes alone leaves only what is allowed, whichever of its writes failed.
abbrev pub LawLasts : DiskState → DiskState → Type 0
LawLasts old new = (B : Image) (H : List Entry1) (e : Entry1) (M : Image) (S start s : ℕ)
    → IsStep B H e M S start s old new → AddsProper B H e M S old new → Lasts B (H ++ e ∷ []) M S start new

-- the machine's files are those of the disk, and every number on it is below the next stamp
pub record HasFiles (d : DiskState) (F : Files) (t : ℕ) : Type 0 where
  pub files : FilesMatch F d.now
  pub positive : 0 < t
  pub fresh : (b : ℕ) (c : Cell) → b < (super_at d.now).blocks → Contains (d.may b) c → CellBelow t d.now b c

-- And where the disk has the files after the step, the next step may begin, with t the next stamp.
abbrev pub LawStage : DiskState → DiskState → Type 0
LawStage old new = (B : Image) (H : List Entry1) (e : Entry1) (M : Image) (S start s t : ℕ)
    → IsStep B H e M S start s old new → AddsProper B H e M S old new
    → HasFiles new (files_by (files_now B H) e) t
    → Stage B (H ++ e ∷ []) M S start t new

-- A step that leaves the disk and the files, as each refused one, leaves all as it was.
abbrev pub LawIdleStage : DiskState → DiskState → Type 0
LawIdleStage old new = (B : Image) (H : List Entry1) (e : Entry1) (M : Image) (S start s : ℕ)
    → IsStep B H e M S start s old new → StaysButFaults old new → files_by (files_now B H) e ≡ files_now B H
    → Stage B (H ++ e ∷ []) M S start s new

-- What stands is agreed now.
abbrev pub LawTracked : DiskState → Type 0
LawTracked d = (B : Image) (H : List Entry1) (M : Image) (S start s : ℕ) → Stage B H M S start s d
    → IsTracked (mark_at B H (d.moment + 1) M S) d.now

-- the entry of a flush that succeeded
abbrev pub flush_entry : ℕ → DiskState → DiskState → ℕ → ℕ → Entry1
flush_entry caller old new i g = record {
  caller = caller;
  from = old.moment;
  to = new.moment;
  step = step.Flush i g;
  reply = reply.Flushed;
  claims =
      no_claims;
}

-- a flush that succeeds, before which no write failed
pub record IsFlush (B : Image) (H : List Entry1) (M : Image) (S start s : ℕ) (old new : DiskState) : Type 0 where
  pub stage : Stage B H M S start s old
  pub before : IsDisk old
  pub after : IsDisk new
  pub tells : IsTrue old.tells
  pub no_fault : NoWriteFault H
  pub rest : SteadyRest B H old.now
  pub flushes : Flushes old new (Ok tt)
  pub mountable : is_mountable old.now ≡ true

-- A flush that succeeds makes the disk before it the new mark.
abbrev pub LawFlushStage : DiskState → DiskState → Type 0
LawFlushStage old new = (B : Image) (H : List Entry1) (M : Image) (S start s caller i g : ℕ)
    → IsFlush B H M S start s old new → Stage B (H ++ flush_entry caller old new i g ∷ []) old.now s start s new

-- a disk that tells, as a mount leaves it: each block may hold its present cell alone, and every number on it is below
-- s
pub record IsLeftByMount (d : DiskState) (s : ℕ) : Type 0 where
  pub disk : IsDisk d
  pub tells : IsTrue d.tells
  pub settled : IsSettled d
  pub mountable : is_mountable d.now ≡ true
  pub below : IsBelow s d.now
  pub positive : 0 < s

-- The first step of a mount may begin, and so may a flush: the rest is steady.
abbrev pub LawFirstStage : DiskState → Type 0
LawFirstStage d = (s : ℕ) → IsLeftByMount d s → Stage d.now [] d.now s d.moment s d × SteadyRest d.now [] d.now

-- Between two steps, also after a write fault: what a read gives is steady, as far as its rest is.
abbrev pub LawSteady : DiskState → Type 0
LawSteady d = (B : Image) (H : List Entry1) (M : Image) (S start : ℕ) → IsDisk d → IsTrue d.tells
    → Lasts B H M S start d → SteadyRest B H d.now
    → IsSteady B H (d.moment + 1) d.may d.now
