-- Why each number in a written cell is one that the step may write: a cell as before but for one piece, or a claimed
-- one.
use Rattle.std.specs.Prelude.{◌≡◌, ◌≢◌, ℕ, ◌+◌, ◌-◌, ◌/◌, ◌%◌, ◌<◌, ◌⊎◌, true, false, Some, List, length, IfSome}
use Rattle.std.specs.Prelude.{Contains}
use Rattle.nofs_disk.specs.declared.tag.Cell.{Cell}
use Rattle.nofs_disk.specs.declared.tag.Kind.TheVariants.{Content, Directory, Table}
use Rattle.nofs_disk.specs.declared.tag.Tag.{Tag}
use Rattle.nofs_disk.specs.declared.tag.Pointer.{Pointer}
use Rattle.nofs_inode.specs.declared.inode.BackLink.{BackLink}
use Rattle.nofs_inode.specs.declared.inode.Record.{Record}
use Rattle.nofs_dirent.specs.declared.entry.Entry.{Entry}
use Rattle.nofs_disk.specs.Tag.{tag_of}
use Rattle.nofs_disk.specs.Pointer.{is_null}
use Rattle.nofs_inode.specs.InodeRecords.{is_live, record_at}
use Rattle.nofs_ptrs.specs.Cells.{pointer_at}
use Rattle.nofs_dirent.specs.Entries.{entry_of}
use Rattle.nofs_model.specs.Geometry.{Image, is_mountable, is_data_block, is_inode, inode}
use Rattle.nofs_disk.specs.Disk.{cell_at}
use Rattle.nofs_ptrs.specs.Paths.{Path, InRecord, Under, is_pointer_slot, IsSlot}
use Rattle.nofs_model.specs.Slots.{kind_in, tag_for, find, record_pointer}
use Rattle.nofs_model.specs.Sound.{IsBelow}
use Rattle.nofs_model.specs.declared.image.path.PathAnswer.TheVariants as answer
use Rattle.nofs_model.specs.declared.image.value.Value.{Value}
use Rattle.nofs_model.specs.declared.image.value.Value.TheVariants.{Hole, Bytes}
use Rattle.nofs_history.specs.Machine.{with_entry}
use Rattle.nofs_history.specs.World.{World}
use Rattle.nofs_history.specs.Claims.{next_stamp}
use Rattle.nofs_history.specs.declared.machine.history.Claims.{Claims}
use Rattle.nofs_crashlaw.specs.Maps.Fresh.{Numbered, CellNumbers}
use Rattle.nofs_crashlaw.specs.Maps.Pieces.{PointerFrom}

-- the image before a step: a step function reads it from a fresh disk
pub record OldNumbers (W : World) (X : Image) : Type 0 where
  -- a mount raised the number before any step
  pub positive : 0 < next_stamp W
  -- no step writes block 0, so what was mounted can be mounted
  pub mountable : is_mountable X ≡ true
  -- fresh, and a pick of what may be left
  pub below : IsBelow (next_stamp W) X

-- a cell that is written for slot a of inode i, into the block of x
pub record CellFor (c : Claims) (X : Image) (i : ℕ) (a : Path) (x : Pointer) (cell : Cell) : Type 0 where
  -- the file is there
  pub live : is_live (inode X i) ≡ true
  -- the slot is one
  pub slot : IsSlot a
  -- the block lies in the data area: it held, or was claimed
  pub area : is_data_block X x.block ≡ true
  -- the cell has the tag of its slot, kept in place or new in a claimed block
  pub tag : tag_of cell.tag ≡ Some (tag_for X i a x.stamp)
  -- x is the pointer of the slot, or a claimed block
  pub from : PointerFrom c X i a x

-- Any content has numbers in its tag alone.
abbrev pub LawContentNumbers : Type 0
LawContentNumbers = (W : World) (c : Claims) (X : Image) (i : ℕ) (a : Path) (x : Pointer) (cell : Cell) → OldNumbers W X
    → CellFor c X i a x cell
    → kind_in (inode X i) a ≡ Content → CellNumbers (Numbered W c) X x.block cell

-- A block of pointers: each was there, is null, or is a claimed one.
abbrev pub LawPointerNumbers : Type 0
LawPointerNumbers = (W : World) (c : Claims) (X : Image) (i : ℕ) (a : Path) (x : Pointer) (cell : Cell) → OldNumbers W X
    → CellFor c X i a x cell
    → is_pointer_slot a ≡ true → ((n : ℕ) → n < 64 → PointerFrom c X i (Under a n) (pointer_at cell.payload n))
    → CellNumbers (Numbered W c) X x.block cell

-- what a directory's cell had before one entry is written: the bytes of its slot, or zeros in a claimed block
pub data EntriesFrom (X : Image) (d : ℕ) (a : Path) (old : Value) : Type 0 where
  Held : (y : Pointer) → find X d a ≡ answer.Holds y → length (cell_at X y.block).payload ≡ 1024
      → old ≡ Bytes (cell_at X y.block).payload → EntriesFrom X d a old
  Zeros : old ≡ Hole → EntriesFrom X d a old

-- one entry of a directory's cell is written or cleared
pub record EntryWritten (W : World) (c : Claims) (X : Image) (d : ℕ) (a : Path) (cell : Cell) (old : Value) (place : ℕ)
    (bytes : List ℕ) : Type 0 where
  pub before : EntriesFrom X d a old
  -- the entry's bytes
  pub whole : length bytes ≡ 64
  -- the other entries stay
  pub content : Bytes cell.payload ≡ with_entry old place bytes
  -- what is written names a generation that the step may write, or spells no entry
  pub number : IfSome (entry_of bytes) (λ (n : Entry). Numbered W c n.generation)

-- A directory's cell with one entry written.
abbrev pub LawDirectoryNumbers : Type 0
LawDirectoryNumbers = (W : World) (c : Claims) (X : Image) (d : ℕ) (a : Path) (x : Pointer) (cell : Cell) (old : Value)
    (n : ℕ) (bytes : List ℕ)
    → OldNumbers W X → CellFor c X d a x cell
    → kind_in (inode X d) a ≡ Directory → EntryWritten W c X d a cell old n bytes
    → CellNumbers (Numbered W c) X x.block cell

-- a record that is written in place of a live one
pub record RecordFrom (W : World) (c : Claims) (X : Image) (j : ℕ) (r : Record) : Type 0 where
  pub live : is_live (inode X j) ≡ true
  pub generation : r.generation ≡ (inode X j).generation
  -- each link was there, or leads to a generation that the step may write
  pub links : (l : BackLink) → Contains r.links l → Contains (inode X j).links l ⊎ Numbered W c l.generation
  -- each pointer was there, is null, or is a claimed block
  pub pointers : (n : ℕ) → n < 10 → PointerFrom c X j (InRecord n) (record_pointer r n)

-- the record of a claimed inode
pub record RecordBorn (W : World) (c : Claims) (r : Record) : Type 0 where
  pub claimed : c.inode ≢ 0
  pub generation : r.generation ≡ c.generation
  pub links : (l : BackLink) → Contains r.links l → Numbered W c l.generation
  pub pointers : (n : ℕ) → n < 10 → is_null (record_pointer r n) ≡ true

-- why a record of inode j stands in a written table cell
pub data RecordWritten (W : World) (c : Claims) (X : Image) (j : ℕ) (r : Record) : Type 0 where
  AsBefore : r ≡ inode X j → RecordWritten W c X j r
  Changed : RecordFrom W c X j r → RecordWritten W c X j r
  Made : RecordBorn W c r → RecordWritten W c X j r
  Freed : is_live r ≡ false → RecordWritten W c X j r

-- the tag of block b of the inode table, which each write of it has
abbrev pub table_tag : ℕ → Tag
table_tag b = record { kind = Table; inode = 0; generation = 0; slot = b; stamp = 0 }

-- A table cell, whichever of its four records a step has written.
abbrev pub LawTableNumbers : Type 0
LawTableNumbers = (W : World) (c : Claims) (X : Image) (b : ℕ) (cell : Cell) → OldNumbers W X
    → tag_of cell.tag ≡ Some (table_tag b)
    → ((j : ℕ) → is_inode X j ≡ true → 1 + (j - 1) / 4 ≡ b
    → RecordWritten W c X j (record_at cell.payload ((j - 1) % 4))) → CellNumbers (Numbered W c) X b cell

-- At any moment of a step: each record of the cell is the one before it or the one after it, also between two writes.
abbrev pub LawTableMoment : Type 0
LawTableMoment = (W : World) (c : Claims) (X Y : Image) (b : ℕ) (cell : Cell) → OldNumbers W X
    → tag_of cell.tag ≡ Some (table_tag b)
    → ((j : ℕ) → is_inode X j ≡ true → 1 + (j - 1) / 4 ≡ b → (record_at cell.payload ((j - 1) % 4) ≡ inode X j)
    ⊎ (record_at cell.payload ((j - 1) % 4) ≡ inode Y j))
    → ((j : ℕ) → RecordWritten W c X j (inode Y j)) → CellNumbers (Numbered W c) X b cell
