-- What is the same in all that a crash may leave, and what of the base is left beside the machine's files.
use Rattle.std.specs.Prelude.{◌≡◌, ℕ, ◌<◌, ◌⊎◌, true, false, List, [], length}
use Rattle.nofs_disk.specs.Disk.{Picks}
use Rattle.nofs_disk.specs.declared.tag.Cell.{Cell}
use Rattle.nofs_inode.specs.InodeRecords.{is_live}
use Rattle.nofs_ptrs.specs.Paths.{slot_limit, Path, path_of}
use Rattle.nofs_model.specs.Geometry.{Image, inode}
use Rattle.nofs_model.specs.Slots.{IsAbove, pointer, value}
use Rattle.nofs_model.specs.Files.{files_in, agreed}
use Rattle.nofs_model.specs.declared.image.value.Value.TheVariants.{Lost}
use Rattle.nofs_history.specs.Meta.{meta_of}
use Rattle.nofs_history.specs.Since.{agreed_files, values_given, metas_given, stands, IsSure}
use Rattle.nofs_history.specs.declared.machine.history.Entry1.{Entry1}

-- Every image that picks for each block of X one member of `may` has X's pointer for each slot that is sure, and for
-- each block above it.
abbrev pub SteadyPointers : Image → List Entry1 → ℕ → (ℕ → List Cell) → Image → Type 0
SteadyPointers B H m may X = (i g k : ℕ) (path : Path) (Y : Image) → Picks may (length X) Y
    → stands B H m i g ≡ true → k < slot_limit → IsSure B H m i g k → IsAbove path (path_of k)
    → pointer Y i path ≡ pointer X i path

-- what is live and not agreed is the base's, as far as it is still there
pub record Untouched (B : Image) (H : List Entry1) (X : Image) (i : ℕ) : Type 0 where
  pub live : is_live (inode B i) ≡ true
  pub generation : (inode B i).generation ≡ (inode X i).generation
  pub meta : meta_of (inode X i) ≡ meta_of (inode B i)
  pub no_value : (k : ℕ) → values_given (agreed_files B) H i (inode X i).generation k ≡ []
  pub no_meta : metas_given (agreed_files B) H i (inode X i).generation ≡ []
  pub values : (k : ℕ) → k < slot_limit → (value X i k ≡ value B i k) ⊎ (value X i k ≡ Lost)

-- each live inode of X that is not agreed is untouched
abbrev pub SteadyRest : Image → List Entry1 → Image → Type 0
SteadyRest B H X = (i : ℕ) → is_live (inode X i) ≡ true → agreed (files_in X) i ≡ false → Untouched B H X i

-- X is what a read gives at moment m, and `may` what a crash may leave of each block: the pointers of what is sure are
-- the same in every pick, and what is live and not agreed is the base's
pub record IsSteady (B : Image) (H : List Entry1) (m : ℕ) (may : ℕ → List Cell) (X : Image) : Type 0 where
  pub pointers : SteadyPointers B H m may X
  pub rest : SteadyRest B H X
