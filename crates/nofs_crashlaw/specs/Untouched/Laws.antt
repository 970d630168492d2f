-- What a step leaves of the files that it does not touch, and of the slots of the one that it changes.
use Rattle.std.specs.Prelude.{◌≡◌, ◌≢◌, ℕ, ◌<◌, Bool, true, false}
use Rattle.nofs_inode.specs.InodeRecords.{is_live}
use Rattle.nofs_ptrs.specs.Paths.{slot_limit, Path, path_of, IsSlot}
use Rattle.nofs_disk.specs.declared.tag.Pointer.{Pointer}
use Rattle.nofs_model.specs.Geometry.{Image, inode}
use Rattle.nofs_disk.specs.Disk.{cell_at}
use Rattle.nofs_model.specs.Files.{files_in, agreed}
use Rattle.nofs_model.specs.Slots.{value, find, IsAbove}
use Rattle.nofs_model.specs.declared.image.path.PathAnswer.TheVariants as answer
use Rattle.nofs_model.specs.declared.image.value.Value.TheVariants.{Bytes}
use Rattle.nofs_history.specs.History.{SameFile}
use Rattle.nofs_crashlaw.specs.Untouched.Frames.{Rewrites, SameIdentity, OldPointers, Touches}
use Rattle.nofs_crashlaw.specs.Files.Growth.{Grows}

-- The file of an agreed inode that a step does not touch stays.
abbrev pub LawUntouched : Type 0
LawUntouched = (s : ℕ) (touched : ℕ → Bool) (X Y : Image) (j : ℕ) → Touches s touched X Y
    → touched j ≡ false → agreed (files_in X) j ≡ true
    → OldPointers s X j → is_live (inode X j) ≡ true
    → SameFile (files_in X j) (files_in Y j)

-- Where slot k gets its block, each slot of its path holds, every other is found as before, and so are the other
-- values.
pub record Grown (X Y : Image) (i k : ℕ) (at : Path → Pointer) : Type 0 where
  pub on : (a : Path) → IsAbove a (path_of k) → find Y i a ≡ answer.Holds (at a)
  pub off : (a : Path) → IsSlot a → (IsAbove a (path_of k) → ⊥) → find Y i a ≡ find X i a
  pub here : value Y i k ≡ Bytes (cell_at Y (at (path_of k)).block).payload
  pub beside : (l : ℕ) → l < slot_limit → l ≢ k → value Y i l ≡ value X i l

abbrev pub LawGrown : Type 0
LawGrown = (s : ℕ) (X Y : Image) (i k : ℕ) (at : Path → Pointer) → Rewrites s X Y
    → agreed (files_in X) i ≡ true → SameIdentity X Y i → OldPointers s X i
    → k < slot_limit → Grows s X Y i (path_of k) at
    → Grown X Y i k at
