-- What a Put leaves on the disk, wherever its slot lies.
use Rattle.std.specs.Prelude.{◌≡◌, ◌≢◌, ℕ, ◌+◌, ◌*◌, ◌<◌, ◌⊎◌, max, true, false, List, length, Some, is_some, ◌==◌}
use Rattle.nofs_disk.specs.declared.tag.Pointer.{Pointer}
use Rattle.nofs_disk.specs.Tag.{tag_of}
use Rattle.nofs_ptrs.specs.Paths.{slot_limit, Path, path_of}
use Rattle.nofs_model.specs.Geometry.{Image, is_data_block, inode}
use Rattle.nofs_disk.specs.Disk.{cell_at}
use Rattle.nofs_model.specs.Slots.{find, pointer, record_pointer, IsAbove}
use Rattle.nofs_model.specs.Files.{FileState, Files, is_folder}
use Rattle.nofs_model.specs.declared.image.path.PathAnswer.TheVariants as answer
use Rattle.nofs_history.specs.Machine.{put_given, put_content, files_after}
use Rattle.nofs_history.specs.History.{FilesMatch}
use Rattle.nofs_history.specs.World.{World}
use Rattle.nofs_history.specs.Claims.{no_claims, is_claimed, slot_above, IsClaim}
use Rattle.nofs_history.specs.declared.machine.history.Claims.{Claims}
use Rattle.nofs_history.specs.declared.machine.steps.Step.TheVariants as step
use Rattle.nofs_crashlaw.specs.Untouched.Frames.{Touches, OldPointers, SameNames}
use Rattle.nofs_crashlaw.specs.Files.Growth.{Grows}
use Rattle.nofs_crashlaw.specs.Maps.Homes.{HomesMove}
use Rattle.nofs_crashlaw.specs.Maps.Moves.{IsClaimed}

-- X before the step, Y after it: the content lies in slot k of file i, and each slot of its path has its place. Where
-- the slot held before, the places are those of X; where not, some of them are claimed
pub record PutLies (F : Files) (X Y : Image) (i g k at : ℕ) (bytes : List ℕ) (f : FileState) (s : ℕ)
    (places : Path → Pointer) : Type 0 where
  pub files : FilesMatch F X
  pub is : F i ≡ Some f
  pub generation : f.generation ≡ g
  pub file : is_folder f.kind ≡ false
  pub range : k < slot_limit
  pub touches : Touches s (λ j. j == i) X Y
  pub names : SameNames X Y i
  pub size : (inode Y i).size ≡ max f.size (1024 * k + at + length bytes)
  pub grows : Grows s X Y i (path_of k) places
  pub content : (cell_at Y (places (path_of k)).block).payload ≡ put_content (f.values k) f.size k at bytes
  pub old : (j : ℕ) → is_some (F j) ≡ true → OldPointers s X j

-- X before the step, Y after it: slot k of file i holds, and its block is written in place
pub record PutHeld (F : Files) (X Y : Image) (i g k at : ℕ) (bytes : List ℕ) (f : FileState) (s : ℕ)
    (x : Pointer) : Type 0 where
  pub files : FilesMatch F X
  pub is : F i ≡ Some f
  pub generation : f.generation ≡ g
  pub file : is_folder f.kind ≡ false
  pub range : k < slot_limit
  pub held : find X i (path_of k) ≡ answer.Holds x
  pub super : cell_at Y 0 ≡ cell_at X 0
  pub records : (j : ℕ) → j ≢ i → inode Y j ≡ inode X j
  pub blocks : (b : ℕ) → is_data_block X b ≡ true → b ≢ x.block → cell_at Y b ≡ cell_at X b
  pub names : SameNames X Y i
  pub pointers : (n : ℕ) → record_pointer (inode Y i) n ≡ record_pointer (inode X i) n
  pub size : (inode Y i).size ≡ max f.size (1024 * k + at + length bytes)
  pub tag : tag_of (cell_at Y x.block).tag ≡ tag_of (cell_at X x.block).tag
  pub content : (cell_at Y x.block).payload ≡ put_content (f.values k) f.size k at bytes
  pub old : (j : ℕ) → is_some (F j) ≡ true → OldPointers s X j

-- each place is that of X, or a claimed one in a slot that held nothing
pub record ClaimsPlaced (c : Claims) (X : Image) (i k : ℕ) (places : Path → Pointer) : Type 0 where
  pub cell : is_claimed c.cell ≡ true → places (path_of k) ≡ c.cell
  pub leaf : is_claimed c.leaf ≡ true → IsAbove (slot_above (path_of k)) (path_of k)
      × (places (slot_above (path_of k)) ≡ c.leaf)
  pub top : is_claimed c.top ≡ true → IsAbove (slot_above (slot_above (path_of k))) (path_of k)
      × (places (slot_above (slot_above (path_of k))) ≡ c.top)
  pub each : (a : Path) → IsAbove a (path_of k) → (find X i a ≡ answer.Holds (places a)) ⊎
      (IsClaimed c (places a) × ((x : Pointer) → find X i a ≡ answer.Holds x → ⊥))

-- A Put in place lies at the places that it had.
abbrev pub LawPutHeld : Type 0
LawPutHeld = (F : Files) (X Y : Image) (i g k at : ℕ) (bytes : List ℕ) (f : FileState) (s : ℕ) (x : Pointer)
    → PutHeld F X Y i g k at bytes f s x
    → PutLies F X Y i g k at bytes f s (λ a. pointer X i a)
    × ((c : Claims) → c ≡ no_claims → ClaimsPlaced c X i k (λ a. pointer X i a))

-- The machine's files after a Put are those of the disk after it.
abbrev pub LawPutFiles : Type 0
LawPutFiles =
    (F : Files) (X Y : Image) (i g k at : ℕ) (bytes : List ℕ) (f : FileState) (s : ℕ) (places : Path → Pointer)
    → PutLies F X Y i g k at bytes f s places → FilesMatch (files_after F (put_given F i g k at bytes)) Y

-- And its claimed blocks have their homes.
abbrev pub LawPutHomes : Type 0
LawPutHomes = (W : World) (X Y : Image) (i g k at : ℕ) (bytes : List ℕ) (f : FileState) (s : ℕ)
    (places : Path → Pointer) (c : Claims)
    → PutLies W.files X Y i g k at bytes f s places → IsClaim W (step.Put i g k at bytes) c
    → ClaimsPlaced c X i k places
    → HomesMove W.files (step.Put i g k at bytes) c X Y
