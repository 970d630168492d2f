-- Sound images: every generation and stamp in them is one that some mount before the next one gave.
use Rattle.std.specs.Prelude.{◌≡◌, ℕ, ◌+◌, ◌-◌, ◌*◌, ◌/◌, ◌%◌, ◌^◌, ◌<◌, ◌≤◌, true, List, length, IfSome, All, Contains}
use Rattle.nofs_disk.specs.declared.tag.Cell.{Cell}
use Rattle.nofs_disk.specs.declared.tag.Kind.TheVariants.{Directory, Leaf}
use Rattle.nofs_inode.specs.declared.inode.Record.{Record}
use Rattle.nofs_disk.specs.Tag.{tag_of}
use Rattle.nofs_ptrs.specs.Cells.{pointer_at}
use Rattle.nofs_inode.specs.InodeRecords.{record_at, is_live}
use Rattle.nofs_dirent.specs.Entries.{entry_in}
use Rattle.nofs_super.specs.Format.{formatted_cell}
use Rattle.nofs_model.specs.Geometry.{Image, super_at, is_mountable, is_inode}
use Rattle.nofs_super.specs.Geometry.{IsGeometry}
use Rattle.nofs_disk.specs.Disk.{cell_at}
use Rattle.nofs_model.specs.Slots.{record_pointer}

-- the generations and stamps of a tag, of the entries of a directory's cell, and of the pointers of a cell of pointers
pub record TagBelow (bound : ℕ) (c : Cell) : Type 0 where
  pub own : IfSome (tag_of c.tag) (λ t. (t.generation < bound) × (t.stamp < bound))
  pub entries : IfSome (tag_of c.tag)
      (λ t. t.kind ≡ Directory → (j : ℕ) → j < 16 → IfSome (entry_in c.payload j) (λ e. e.generation < bound))
  pub pointers : IfSome (tag_of c.tag) (λ t. t.kind ≡ Leaf → (j : ℕ) → j < 64 → (pointer_at c.payload j).stamp < bound)

-- those of a record
pub record RecordBelow (bound : ℕ) (r : Record) : Type 0 where
  pub generation : r.generation < bound
  pub links : All (λ l. l.generation < bound) r.links
  pub pointers : (n : ℕ) → n < 10 → (record_pointer r n).stamp < bound

-- every generation and stamp in a cell of block b is below the bound. The image gives the numbers of blocks and inodes
pub record CellBelow (bound : ℕ) (X : Image) (b : ℕ) (c : Cell) : Type 0 where
  pub tag : TagBelow bound c
  pub records : (i : ℕ) → is_inode X i ≡ true → 1 + (i - 1) / 4 ≡ b → is_live (record_at c.payload ((i - 1) % 4)) ≡ true
      → RecordBelow bound (record_at c.payload ((i - 1) % 4))

-- every generation and stamp that the image names is below the bound
abbrev pub IsBelow : ℕ → Image → Type 0
IsBelow bound X = (b : ℕ) → b < (super_at X).blocks → CellBelow bound X b (cell_at X b)

-- the image can be mounted, its mount number fits, and no generation or stamp is one of a later mount
pub record IsSound (X : Image) : Type 0 where
  pub mountable : is_mountable X ≡ true
  pub mount : (super_at X).mount < 2 ^ 24
  pub below : IsBelow (((super_at X).mount + 1) * 2 ^ 40) X

-- every image that picks from cells below a bound is sound, where the bound is within the mount's stamps
abbrev pub LawSound : Type 0
LawSound = (bound : ℕ) (X Y : Image) (may : ℕ → List Cell)
    → is_mountable X ≡ true → (super_at X).mount < 2 ^ 24 → bound ≤ ((super_at X).mount + 1) * 2 ^ 40
    → ((b : ℕ) → b < (super_at X).blocks → (c : Cell) → Contains (may b) c → CellBelow bound X b c)
    → length Y ≡ length X → cell_at Y 0 ≡ cell_at X 0
    → ((b : ℕ) → b < length Y → Contains (may b) (cell_at Y b)) → IsSound Y

-- what a format leaves is sound, on a device of any size that it accepts
abbrev pub LawFormatted : Type 0
LawFormatted = (X : Image) (blocks inodes : ℕ) → IsGeometry (length X) blocks inodes
    → ((b : ℕ) → b < blocks → cell_at X b ≡ formatted_cell blocks inodes b)
    → IsSound X
