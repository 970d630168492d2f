-- A slot of content gets a block: the blocks of pointers above it are there already, or are claimed with it.
use Rattle.std.specs.Prelude.{◌≡◌, ℕ, ◌≤◌, ◌⊎◌, true, false, Some}
use Rattle.nofs_disk.specs.declared.tag.Pointer.{Pointer}
use Rattle.nofs_disk.specs.Tag.{tag_of}
use Rattle.nofs_disk.specs.Pointer.{is_null}
use Rattle.nofs_ptrs.specs.Cells.{pointer_at}
use Rattle.nofs_model.specs.Geometry.{Image, is_data_block, inode}
use Rattle.nofs_disk.specs.Disk.{cell_at}
use Rattle.nofs_ptrs.specs.Paths.{Path, InRecord, Under, IsSlot}
use Rattle.nofs_model.specs.Slots.{tag_for, find, record_pointer, IsAbove}
use Rattle.nofs_model.specs.Owners.{IsFree}
use Rattle.nofs_model.specs.declared.image.path.PathAnswer.TheVariants as answer

-- where the pointer of slot a stands in Y
abbrev pub IsPlaced : Image → ℕ → (Path → Pointer) → Path → Type 0
IsPlaced Y i at (InRecord n) = record_pointer (inode Y i) n ≡ at (InRecord n)
IsPlaced Y i at (Under b n) = pointer_at (cell_at Y (at b).block).payload n ≡ at (Under b n)

-- a block is claimed for this slot of an inode
pub record ClaimedCell (s : ℕ) (X Y : Image) (d : ℕ) (path : Path) (x : Pointer) : Type 0 where
  pub free : IsFree X x.block
  pub area : is_data_block X x.block ≡ true
  pub fresh : s ≤ x.stamp
  pub tag : tag_of (cell_at Y x.block).tag ≡ Some (tag_for Y d path x.stamp)

-- on the path p each slot has its pointer, at, and its tag; beside it pointers stay, or are null under a slot that was
-- empty
pub record Grows (s : ℕ) (X Y : Image) (d : ℕ) (p : Path) (at : Path → Pointer) : Type 0 where
  pub placed : (a : Path) → IsAbove a p → IsPlaced Y d at a
  pub not_null : (a : Path) → IsAbove a p → is_null (at a) ≡ false
  pub area : (a : Path) → IsAbove a p → is_data_block Y (at a).block ≡ true
  pub tag : (a : Path) → IsAbove a p → tag_of (cell_at Y (at a).block).tag ≡ Some (tag_for Y d a (at a).stamp)
  pub record_stays : (n : ℕ) → (IsAbove (InRecord n) p → ⊥)
      → record_pointer (inode Y d) n ≡ record_pointer (inode X d) n
  pub beside : (b : Path) (n : ℕ) → IsSlot (Under b n) → IsAbove b p → (IsAbove (Under b n) p → ⊥)
      → ((find X d b ≡ answer.Holds (at b))
      × (pointer_at (cell_at Y (at b).block).payload n ≡ pointer_at (cell_at X (at b).block).payload n))
      ⊎ ((find X d b ≡ answer.Hole) × (is_null (pointer_at (cell_at Y (at b).block).payload n) ≡ true))
  pub apart : (b : Path) (y : Pointer) → IsSlot b → (IsAbove b p → ⊥) → find X d b ≡ answer.Holds y
      → cell_at Y y.block ≡ cell_at X y.block
