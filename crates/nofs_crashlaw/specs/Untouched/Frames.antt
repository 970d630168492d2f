-- What a step leaves as it was.
use Rattle.std.specs.Prelude.{◌≡◌, ℕ, ◌<◌, ◌≤◌, ◌⊎◌, Bool, true, false, Some}
use Rattle.nofs_model.specs.declared.image.path.PathAnswer.TheVariants as answer
use Rattle.nofs_disk.specs.declared.tag.Tag.{Tag}
use Rattle.nofs_disk.specs.declared.tag.Pointer.{Pointer}
use Rattle.nofs_disk.specs.Tag.{tag_of}
use Rattle.nofs_ptrs.specs.Cells.{pointer_at}
use Rattle.nofs_inode.specs.InodeRecords.{is_live}
use Rattle.nofs_model.specs.Geometry.{Image, is_data_block, inode}
use Rattle.nofs_disk.specs.Disk.{cell_at}
use Rattle.nofs_ptrs.specs.Paths.{Path, InRecord, Under, IsSlot}
use Rattle.nofs_model.specs.Slots.{record_pointer, find, pointer}
use Rattle.nofs_model.specs.Owners.{IsFree}

-- each block keeps its tag, or was free and has a stamp of at least s
pub record Rewrites (s : ℕ) (X Y : Image) : Type 0 where
  pub super : cell_at Y 0 ≡ cell_at X 0
  pub tags : (b : ℕ) → is_data_block X b ≡ true → (tag_of (cell_at Y b).tag ≡ tag_of (cell_at X b).tag) ⊎
      (IsFree X b × ((t : Tag) → tag_of (cell_at Y b).tag ≡ Some t → s ≤ t.stamp))

-- the inode keeps its kind and generation
pub record SameIdentity (X Y : Image) (i : ℕ) : Type 0 where
  pub live : is_live (inode X i) ≡ true
  pub kind : (inode Y i).kind ≡ (inode X i).kind
  pub generation : (inode Y i).generation ≡ (inode X i).generation

-- the pointers of a slot and of those above it stay
abbrev pub SamePointers : Image → Image → ℕ → Path → Type 0
SamePointers X Y i (InRecord n) = record_pointer (inode Y i) n ≡ record_pointer (inode X i) n
SamePointers X Y i (Under a n) = SamePointers X Y i a × ((y : Pointer) → find X i a ≡ answer.Holds y
    → pointer_at (cell_at Y y.block).payload n ≡ pointer_at (cell_at X y.block).payload n)

-- every pointer of the image has a stamp below s
abbrev pub OldPointers : ℕ → Image → ℕ → Type 0
OldPointers s X i = (path : Path) → IsSlot path → (pointer X i path).stamp < s

-- A step that touches these inodes alone: every block that it writes was free, or belongs to one of them.
pub record Touches (s : ℕ) (touched : ℕ → Bool) (X Y : Image) : Type 0 where
  pub super : cell_at Y 0 ≡ cell_at X 0
  pub records : (j : ℕ) → touched j ≡ false → inode Y j ≡ inode X j
  pub blocks : (b : ℕ) → is_data_block X b ≡ true → (cell_at Y b ≡ cell_at X b)
      ⊎ ((IsFree X b × ((t : Tag) → tag_of (cell_at Y b).tag ≡ Some t → s ≤ t.stamp))
      ⊎ ((tag_of (cell_at Y b).tag ≡ tag_of (cell_at X b).tag) ×
      ((i : ℕ) × (path : Path) × (x : Pointer) × (touched i ≡ true) × (find X i path ≡ answer.Holds x)
      × (x.block ≡ b))))

-- kind, generation, size and links of an inode stay
pub record SameMeta (X Y : Image) (j : ℕ) : Type 0 where
  pub kind : (inode Y j).kind ≡ (inode X j).kind
  pub generation : (inode Y j).generation ≡ (inode X j).generation
  pub size : (inode Y j).size ≡ (inode X j).size
  pub links : (inode Y j).links ≡ (inode X j).links

-- kind, generation and links of an inode stay
pub record SameNames (X Y : Image) (i : ℕ) : Type 0 where
  pub kind : (inode Y i).kind ≡ (inode X i).kind
  pub generation : (inode Y i).generation ≡ (inode X i).generation
  pub links : (inode Y i).links ≡ (inode X i).links
