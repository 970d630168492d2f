-- The writes of one step.
use Rattle.std.specs.Prelude.{◌≡◌, ℕ, ◌+◌, ◌-◌, ◌/◌, ◌%◌, ◌<◌, ◌≤◌, ◌⊎◌, true, false, Some, Contains}
use Rattle.nofs_crashlaw.specs.Images.Reasons.{Holes}
use Rattle.nofs_model.specs.declared.image.path.PathAnswer.TheVariants as answer
use Rattle.nofs_history.specs.Meta.{meta_of}
use Rattle.nofs_history.specs.Marks.{Mark}
use Rattle.nofs_ptrs.specs.Paths.{IsSlot, Path, InRecord, Under, slot_of, is_pointer_slot, slot_limit}
use Rattle.nofs_model.specs.Owners.{IsFree}
use Rattle.nofs_model.specs.Geometry.{Image, is_data_block, is_inode, inode}
use Rattle.nofs_disk.specs.Disk.{cell_at}
use Rattle.nofs_model.specs.Slots.{record_pointer, find, pointer, AboveHolds}
use Rattle.nofs_disk.specs.declared.tag.Cell.{Cell}
use Rattle.nofs_disk.specs.declared.tag.Kind.{Kind}
use Rattle.nofs_disk.specs.declared.tag.Kind.TheVariants.{Content, Directory, Leaf}
use Rattle.nofs_disk.specs.declared.tag.Tag.{Tag}
use Rattle.nofs_disk.specs.declared.tag.Pointer.{Pointer}
use Rattle.nofs_inode.specs.declared.inode.Record.{Record}
use Rattle.nofs_disk.specs.Tag.{tag_of}
use Rattle.nofs_disk.specs.Pointer.{is_null}
use Rattle.nofs_ptrs.specs.Cells.{pointer_at}
use Rattle.nofs_inode.specs.InodeRecords.{record_at, is_live}
use Rattle.nofs_model.specs.declared.image.value.Value.TheVariants.{Hole, Bytes}

-- why a step that began at X, whose givings m has, writes this pointer
pub data PointerProper (L : Mark) (X : Image) (i g : ℕ) (path : Path) (x : Pointer) : Type 0 where
  -- it is the one before
  Same : is_live (inode X i) ≡ true → (inode X i).generation ≡ g → AboveHolds X i path
      → pointer X i path ≡ x → PointerProper L X i g path x
  -- it is null, and a hole was given or stood there
  Cut : is_null x ≡ true → Holes L i g path → PointerProper L X i g path x
  -- it is new, and no block stood there
  New : L.stamps ≤ x.stamp → ((y : Pointer) → find X i path ≡ answer.Holds y → ⊥) → PointerProper L X i g path x

-- the block is written in place, or was free
abbrev pub InPlaceOrFree : Image → ℕ → Cell → Type 0
InPlaceOrFree X b c = (tag_of c.tag ≡ tag_of (cell_at X b).tag) ⊎ IsFree X b

abbrev pub IsContentKind : Kind → Type 0
IsContentKind k = (k ≡ Content) ⊎ (k ≡ Directory)

-- a cell of content
pub record ContentProper (L : Mark) (X : Image) (b : ℕ) (c : Cell) : Type 0 where
  pub area : is_data_block L.image b ≡ true
  pub tag : Tag
  pub spelled : tag_of c.tag ≡ Some tag
  pub kind : IsContentKind tag.kind
  pub given : Contains (L.since tag.inode tag.generation tag.slot) (Bytes c.payload)
  pub place : InPlaceOrFree X b c

-- a cell of pointers
pub record PointersProper (L : Mark) (X : Image) (b : ℕ) (c : Cell) : Type 0 where
  pub area : is_data_block L.image b ≡ true
  pub tag : Tag
  pub spelled : tag_of c.tag ≡ Some tag
  pub kind : tag.kind ≡ Leaf
  pub path : Path
  pub is_slot : IsSlot path
  pub points : is_pointer_slot path ≡ true
  pub slot : tag.slot ≡ slot_of path
  pub place : InPlaceOrFree X b c
  pub pointers : (n : ℕ) → n < 64 → PointerProper L X tag.inode tag.generation (Under path n) (pointer_at c.payload n)

-- why a step writes this record
pub data RecordProper (L : Mark) (X : Image) (i : ℕ) (r : Record) : Type 0 where
  Unchanged : r ≡ inode X i → RecordProper L X i r
  Changed : is_live (inode X i) ≡ true → r.generation ≡ (inode X i).generation → r.kind ≡ (inode X i).kind
      → Contains (L.metas i r.generation) (meta_of r)
      → ((n : ℕ) → n < 10 → PointerProper L X i r.generation (InRecord n) (record_pointer r n)) → RecordProper L X i r
  Freed : is_live r ≡ false → ((g : ℕ) → L.stands i g ≡ false) → RecordProper L X i r
  Made : L.stamps ≤ r.generation → ((g : ℕ) → L.stands i g ≡ false) → Contains (L.metas i r.generation) (meta_of r)
      → ((n : ℕ) → n < 10 → is_null (record_pointer r n) ≡ true)
      → ((k : ℕ) → k < slot_limit → Contains (L.since i r.generation k) Hole) → RecordProper L X i r

-- a table cell
pub record TableProper (L : Mark) (X : Image) (b : ℕ) (c : Cell) : Type 0 where
  pub not_super : 0 < b
  pub area : is_data_block L.image b ≡ false
  pub records : (i : ℕ)
      → is_inode L.image i ≡ true → 1 + (i - 1) / 4 ≡ b → RecordProper L X i (record_at c.payload ((i - 1) % 4))

pub data Proper (L : Mark) (X : Image) (b : ℕ) (c : Cell) : Type 0 where
  OfContent : ContentProper L X b c → Proper L X b c
  OfPointers : PointersProper L X b c → Proper L X b c
  OfTable : TableProper L X b c → Proper L X b c
