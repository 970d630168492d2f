-- What a crash may leave, block by block.
use Rattle.std.specs.Prelude.{◌≡◌, ℕ, ◌+◌, ◌-◌, ◌/◌, ◌%◌, ◌<◌, ◌≤◌, ◌⊎◌, ◌≢◌, true, List, Some, Contains}
use Rattle.nofs_ptrs.specs.Paths.{slot_limit, Path, InRecord, Under, path_of}
use Rattle.nofs_model.specs.declared.image.path.PathAnswer.TheVariants as answer
use Rattle.nofs_history.specs.Meta.{meta_of, AllBytes, MayRead}
use Rattle.nofs_history.specs.Marks.{Mark}
use Rattle.nofs_model.specs.Slots.{IsAbove, AboveHolds, record_pointer, find, pointer, value}
use Rattle.nofs_model.specs.Geometry.{Image, super_at, is_data_block, is_inode, inode}
use Rattle.nofs_disk.specs.Disk.{cell_at}
use Rattle.nofs_disk.specs.declared.tag.Cell.{Cell}
use Rattle.nofs_disk.specs.declared.tag.Kind.{Kind}
use Rattle.nofs_disk.specs.declared.tag.Kind.TheVariants.{Nothing, Content, Directory, Leaf, Table, Super}
use Rattle.nofs_disk.specs.declared.tag.Tag.{Tag}
use Rattle.nofs_disk.specs.declared.tag.Pointer.{Pointer}
use Rattle.nofs_inode.specs.declared.inode.Record.{Record}
use Rattle.nofs_disk.specs.Tag.{tag_of}
use Rattle.nofs_disk.specs.Pointer.{is_null}
use Rattle.nofs_ptrs.specs.Cells.{pointer_at}
use Rattle.nofs_inode.specs.InodeRecords.{record_at, is_live}
use Rattle.nofs_model.specs.declared.image.value.Value.TheVariants.{Hole, Bytes, Lost}

-- each slot of content in or below this one may be a hole
abbrev pub Holes : Mark → ℕ → ℕ → Path → Type 0
Holes L i g path = (k : ℕ) → k < slot_limit → IsAbove path (path_of k) → Contains (L.since i g k) Hole

-- the mark has this pointer in this slot of this generation
pub record FromMark (L : Mark) (i g : ℕ) (path : Path) (x : Pointer) : Type 0 where
  pub live : is_live (inode L.image i) ≡ true
  pub generation : (inode L.image i).generation ≡ g
  pub above : AboveHolds L.image i path
  pub same : pointer L.image i path ≡ x

-- why a pointer may stand in this slot
pub data Explained (L : Mark) (i g : ℕ) (path : Path) (x : Pointer) : Type 0 where
  Emptied : is_null x ≡ true → Holes L i g path → Explained L i g path x
  Fresh : L.stamps ≤ x.stamp → Explained L i g path x
  Kept : FromMark L i g path x → Explained L i g path x

-- why a block with this tag may have this payload
abbrev pub WrittenAs : Mark → Kind → Tag → List ℕ → Type 0
WrittenAs L Leaf t payload =
    (n : ℕ) → n < 64 → Explained L t.inode t.generation (Under (path_of t.slot) n) (pointer_at payload n)
WrittenAs L Content t payload = Contains (L.since t.inode t.generation t.slot) (Bytes payload)
WrittenAs L Directory t payload = Contains (L.since t.inode t.generation t.slot) (Bytes payload)
WrittenAs L Nothing t payload = ⊥
WrittenAs L Table t payload = ⊥
WrittenAs L Super t payload = ⊥

-- why a record may stand in the table
pub record RecordExplained (L : Mark) (i : ℕ) (r : Record) : Type 0 where
  pub meta : Contains (L.metas i r.generation) (meta_of r)
  pub kind : is_live (inode L.image i) ≡ true → (inode L.image i).generation ≡ r.generation
      → (inode L.image i).kind ≡ r.kind
  pub pointers : (n : ℕ) → n < 10 → Explained L i r.generation (InRecord n) (record_pointer r n)

-- why a cell may have been written since the mark
pub record Written (L : Mark) (b : ℕ) (c : Cell) : Type 0 where
  pub not_super : 0 < b
  pub block : is_data_block L.image b ≡ true → (t : Tag) × (tag_of c.tag ≡ Some t) × WrittenAs L t.kind t c.payload
  pub table : (i : ℕ)
      → is_inode L.image i ≡ true → 1 + (i - 1) / 4 ≡ b → is_live (record_at c.payload ((i - 1) % 4)) ≡ true
      → RecordExplained L i (record_at c.payload ((i - 1) % 4))

-- the block is as at the mark, or was written since
abbrev pub Fine : Mark → ℕ → Cell → Type 0
Fine L b c = (c ≡ cell_at L.image b) ⊎ Written L b c

-- a sure slot of content lies in or below this one
pub record IsKept (L : Mark) (i g : ℕ) (path : Path) : Type 0 where
  pub stands : L.stands i g ≡ true
  pub slot : ℕ
  pub range : slot < slot_limit
  pub sure : AllBytes (L.since i g slot)
  pub above : IsAbove path (path_of slot)

-- the record has what the mark's record has of the kept slots
pub record RecordStands (L : Mark) (i g : ℕ) (r : Record) : Type 0 where
  pub live : is_live r ≡ true
  pub generation : r.generation ≡ g
  pub kind : r.kind ≡ (inode L.image i).kind
  pub pointers : (n : ℕ) → IsKept L i g (InRecord n) → record_pointer r n ≡ record_pointer (inode L.image i) n

-- the cell has what the mark's cell has of a kept slot
pub record BlockStands (L : Mark) (i g : ℕ) (path : Path) (b : ℕ) (c : Cell) : Type 0 where
  pub tag : tag_of c.tag ≡ tag_of (cell_at L.image b).tag
  pub pointers : (n : ℕ) → IsKept L i g (Under path n)
      → pointer_at c.payload n ≡ pointer_at (cell_at L.image b).payload n

-- no kept slot is disturbed
pub record Solid (L : Mark) (b : ℕ) (c : Cell) : Type 0 where
  pub table : (i g : ℕ) → L.stands i g ≡ true → is_inode L.image i ≡ true → 1 + (i - 1) / 4 ≡ b
      → RecordStands L i g (record_at c.payload ((i - 1) % 4))
  pub block : (i g : ℕ) (path : Path) (x : Pointer) → IsKept L i g path → find L.image i path ≡ answer.Holds x
      → x.block ≡ b → BlockStands L i g path b c

abbrev pub SolidImage : Mark → Image → Type 0
SolidImage L X = (b : ℕ) → Solid L b (cell_at X b)

-- what holds of the image at the mark
pub record IsMark (L : Mark) : Type 0 where
  pub positive : 0 < L.stamps
  pub quarters : (super_at L.image).inodes % 4 ≡ 0
  pub values : (i k : ℕ) → is_live (inode L.image i) ≡ true → k < slot_limit
      → MayRead (L.since i (inode L.image i).generation k) (value L.image i k)
  pub metas : (i : ℕ)
      → is_live (inode L.image i) ≡ true → Contains (L.metas i (inode L.image i).generation) (meta_of (inode L.image i))
  pub young : (i : ℕ) → is_live (inode L.image i) ≡ true → (inode L.image i).generation < L.stamps
  pub stood : (i g : ℕ) → L.stands i g ≡ true → is_live (inode L.image i) ≡ true
  pub stood_generation : (i g : ℕ) → L.stands i g ≡ true → (inode L.image i).generation ≡ g
  pub stood_values : (i g k : ℕ) → L.stands i g ≡ true → k < slot_limit → Contains (L.since i g k) (value L.image i k)
  pub below : (b : ℕ) (t : Tag) → is_data_block L.image b ≡ true → tag_of (cell_at L.image b).tag ≡ Some t
      → t.stamp < L.stamps

-- each record and each value of the image is one that may be read
pub record ReadsSince (L : Mark) (X : Image) : Type 0 where
  pub super : cell_at X 0 ≡ cell_at L.image 0
  pub metas : (i : ℕ) → is_live (inode X i) ≡ true → Contains (L.metas i (inode X i).generation) (meta_of (inode X i))
  pub values : (i k : ℕ)
      → is_live (inode X i) ≡ true → k < slot_limit → MayRead (L.since i (inode X i).generation k) (value X i k)

abbrev pub FineImage : Mark → Image → Type 0
FineImage L X = (b : ℕ) → Fine L b (cell_at X b)

-- what stands is there, and what is sure is not lost
pub record KeepsSure (L : Mark) (X : Image) : Type 0 where
  pub records : (i g : ℕ) → L.stands i g ≡ true → (is_live (inode X i) ≡ true) × ((inode X i).generation ≡ g)
  pub values : (i g k : ℕ) → L.stands i g ≡ true → k < slot_limit → AllBytes (L.since i g k) → value X i k ≢ Lost

-- each kept slot has the pointer that it had at the mark
abbrev pub KeepsPointers : Mark → Image → Type 0
KeepsPointers L X = (i g : ℕ) (path : Path) → IsKept L i g path → find X i path ≡ find L.image i path
