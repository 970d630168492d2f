-- What a Resize leaves on the disk: the slots from the cut on are empty, and every other stays.
use Rattle.std.specs.Prelude.{◌≡◌, ◌≢◌, ℕ, ◌+◌, ◌*◌, ◌<◌, min, Bool, true, false, ◌||◌, if◌then◌else◌, nat_le, ◌==◌}
use Rattle.std.specs.Prelude.{unwrap_or, is_some, Some}
use Rattle.nofs_disk.specs.declared.tag.Pointer.{Pointer}
use Rattle.nofs_disk.specs.Pointer.{is_null}
use Rattle.nofs_ptrs.specs.Cells.{pointer_at}
use Rattle.nofs_ptrs.specs.Paths.{slot_limit, Path, InRecord, Under, path_of, IsSlot}
use Rattle.nofs_model.specs.Geometry.{Image, inode}
use Rattle.nofs_disk.specs.Disk.{cell_at}
use Rattle.nofs_model.specs.Slots.{find, record_pointer}
use Rattle.nofs_model.specs.Files.{FileState, Files, is_folder}
use Rattle.nofs_model.specs.declared.image.path.PathAnswer.TheVariants as answer
use Rattle.nofs_model.specs.declared.image.value.Value.TheVariants.{Bytes}
use Rattle.nofs_history.specs.Marks.{Mark}
use Rattle.nofs_history.specs.Machine.{slots_in, resize_slot, resize_given, files_after}
use Rattle.nofs_history.specs.History.{FilesMatch}
use Rattle.nofs_history.specs.World.{World}
use Rattle.nofs_history.specs.Claims.{IsClaim}
use Rattle.nofs_history.specs.declared.machine.history.Claims.{Claims}
use Rattle.nofs_history.specs.declared.machine.steps.Step.TheVariants as step
use Rattle.nofs_crashlaw.specs.Images.Reasons.{Holes}
use Rattle.nofs_crashlaw.specs.Images.Moments.{during}
use Rattle.nofs_crashlaw.specs.Untouched.Frames.{Touches, OldPointers, SameNames}
use Rattle.nofs_crashlaw.specs.Maps.Homes.{HomesMove}

-- the first slot of content in or below a slot
abbrev pub first_slot_below : Path → ℕ
first_slot_below (InRecord n) = if n == 8 then 8 else (if n == 9 then 72 else n)
first_slot_below (Under (InRecord n) j) = if n == 8 then 8 + j else 72 + 64 * j
first_slot_below (Under (Under a j) q) = 72 + 64 * j + q

-- the slot lies at or behind the cut at slot m, or under one that does
abbrev pub is_cut : ℕ → Path → Bool
is_cut m (InRecord n) = nat_le m (first_slot_below (InRecord n))
is_cut m (Under a n) = is_cut m a || nat_le m (first_slot_below (Under a n))

-- the lesser of the slots of both sizes
abbrev pub cut_at : FileState → ℕ → ℕ
cut_at f size = min (slots_in f.size) (slots_in size)

-- X before the step, Y after it: what is cut has null pointers, and what isn't keeps its own. Content is no block of
-- pointers, whatever its bytes are
pub record ResizeLies (F : Files) (X Y : Image) (i g size : ℕ) (f : FileState) (s : ℕ) : Type 0 where
  pub files : FilesMatch F X
  pub is : F i ≡ Some f
  pub generation : f.generation ≡ g
  pub file : is_folder f.kind ≡ false
  pub touches : Touches s (λ j. j == i) X Y
  pub names : SameNames X Y i
  pub size_is : (inode Y i).size ≡ size
  pub record_cut : (n : ℕ) → is_cut (cut_at f size) (InRecord n) ≡ true → is_null (record_pointer (inode Y i) n) ≡ true
  pub record_stays : (n : ℕ)
      → is_cut (cut_at f size) (InRecord n) ≡ false → record_pointer (inode Y i) n ≡ record_pointer (inode X i) n
  pub cell_cut : (b : Path) (n : ℕ) (y : Pointer) → IsSlot (Under b n)
      → is_cut (cut_at f size) b ≡ false → find X i b ≡ answer.Holds y
      → is_cut (cut_at f size) (Under b n) ≡ true → is_null (pointer_at (cell_at Y y.block).payload n) ≡ true
  pub cell_stays : (b : Path) (n : ℕ) (y : Pointer) → IsSlot (Under b n)
      → is_cut (cut_at f size) b ≡ false → find X i b ≡ answer.Holds y
      → is_cut (cut_at f size) (Under b n) ≡ false
      → pointer_at (cell_at Y y.block).payload n ≡ pointer_at (cell_at X y.block).payload n
  -- nothing is cut under a slot that is lost
  pub whole : (b : Path) (n : ℕ) → IsSlot (Under b n)
      → is_cut (cut_at f size) b ≡ false → is_cut (cut_at f size) (Under b n) ≡ true → find X i b ≢ answer.Lost
  -- the content of a slot that stays is what the step gives, or what it was
  pub content : (k : ℕ) (y : Pointer) → k < slot_limit → k < cut_at f size → find X i (path_of k) ≡ answer.Holds y
      → Bytes (cell_at Y y.block).payload ≡ unwrap_or (resize_slot F i size k) (Bytes (cell_at X y.block).payload)
  pub old : (j : ℕ) → is_some (F j) ≡ true → OldPointers s X j

-- The machine's files after a Resize are those of the disk after it.
abbrev pub LawResizeFiles : Type 0
LawResizeFiles = (F : Files) (X Y : Image) (i g size : ℕ) (f : FileState) (s : ℕ) → ResizeLies F X Y i g size f s
    → FilesMatch (files_after F (resize_given F i g size)) Y

-- No block gets a home, and each block of a slot that stays keeps its own.
abbrev pub LawResizeHomes : Type 0
LawResizeHomes = (W : World) (X Y : Image) (i g size : ℕ) (f : FileState) (s : ℕ) (c : Claims)
    → ResizeLies W.files X Y i g size f s → IsClaim W (step.Resize i g size) c
    → HomesMove W.files (step.Resize i g size) c X Y

-- A pointer may be cut off where its slot is, since holes are given to all that lies below.
abbrev pub LawResizeHoles : Type 0
LawResizeHoles = (L : Mark) (F : Files) (i g size : ℕ) (f : FileState) (a : Path) → F i ≡ Some f → IsSlot a
    → is_cut (cut_at f size) a ≡ true
    → Holes (during L (resize_given F i g size)) i g a
