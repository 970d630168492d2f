-- What stands in the slots of an inode: pointers, blocks that hold, values.
--
-- A slot is a place in the record, or a place in the block of the slot above it.
use Rattle.std.specs.Prelude.{◌≡◌, ℕ, ◌⊎◌, Bool, false, ◌&&◌, get_or, Option, Some, None, if◌then◌else◌, ◌==◌}
use Rattle.nofs_ptrs.specs.Paths.{path_of, slot_of}
use Rattle.nofs_ptrs.specs.Paths.{Path, InRecord, Under, is_pointer_slot}
use Rattle.nofs_disk.specs.declared.tag.Kind.{Kind}
use Rattle.nofs_disk.specs.declared.tag.Kind.TheVariants.{Content, Directory, Leaf}
use Rattle.nofs_disk.specs.declared.tag.Tag.{Tag}
use Rattle.nofs_disk.specs.declared.tag.Pointer.{Pointer}
use Rattle.nofs_inode.specs.declared.inode.FileKind.{FileKind}
use Rattle.nofs_inode.specs.declared.inode.Record.{Record}
use Rattle.nofs_model.specs.Cells.{same_tag}
use Rattle.nofs_disk.specs.Tag.{tag_of}
use Rattle.nofs_disk.specs.Pointer.{null, is_null}
use Rattle.nofs_ptrs.specs.Cells.{pointer_at}
use Rattle.nofs_inode.specs.InodeRecords.{is_live}
use Rattle.nofs_inode.specs.declared.inode.FileKind.TheVariants as file
use Rattle.nofs_model.specs.Geometry.{Image, is_data_block, inode}
use Rattle.nofs_disk.specs.Disk.{cell_at}
use Rattle.nofs_model.specs.declared.image.path.PathAnswer.{PathAnswer}
use Rattle.nofs_model.specs.declared.image.path.PathAnswer.TheVariants as answer
use Rattle.nofs_model.specs.declared.image.value.Value.{Value}
use Rattle.nofs_model.specs.declared.image.value.Value.TheVariants.{Hole, Bytes, Lost}

-- the pointer at a place of the record: eight direct ones, the leaf's, the top's
abbrev pub record_pointer : Record → ℕ → Pointer
record_pointer r n = if n == 8 then r.leaf else (if n == 9 then r.top else get_or r.direct n null)

-- the kind of a block of content
abbrev pub content_kind : Option FileKind → Kind
content_kind (Some file.Directory) = Directory
content_kind _ = Content

-- the kind of a block in this slot
abbrev pub kind_in : Record → Path → Kind
kind_in r path = if is_pointer_slot path then Leaf else content_kind r.kind

-- the tag of a block in this slot
abbrev pub tag_for : Image → ℕ → Path → ℕ → Tag
tag_for X i path stamp = record {
  kind = kind_in (inode X i) path;
  inode = i;
  generation = (inode X i).generation;
  slot = slot_of path;
  stamp = stamp;
}

-- a tag is spelled, and is this one
abbrev pub is_tag : Option Tag → Tag → Bool
is_tag None t = false
is_tag (Some a) t = same_tag a t

-- the inode is live, and the block that x names lies in the data area and has the tag of this slot with the stamp of x
abbrev pub agrees : Image → ℕ → Path → Pointer → Bool
agrees X i path x = is_live (inode X i)
    && (is_data_block X x.block && is_tag (tag_of (cell_at X x.block).tag) (tag_for X i path x.stamp))

-- what stands in a slot with this pointer
abbrev pub judged : Image → ℕ → Path → Pointer → PathAnswer
judged X i path x = if is_null x then answer.Hole else (if agrees X i path x then answer.Holds x else answer.Lost)

-- what stands in a slot: nothing, a block whose tag agrees with the pointer, or neither
abbrev pub find : Image → ℕ → Path → PathAnswer
find X i (InRecord n) = judged X i (InRecord n) (record_pointer (inode X i) n)
find X i (Under above n) = elim (find X i above) [
  | answer.Hole ↦ answer.Hole
  | answer.Holds x ↦ judged X i (Under above n) (pointer_at (cell_at X x.block).payload n)
  | answer.Lost ↦ answer.Lost
]

-- the pointer of a slot: null where the block above it does not hold
abbrev pub pointer : Image → ℕ → Path → Pointer
pointer X i (InRecord n) = record_pointer (inode X i) n
pointer X i (Under above n) = elim (find X i above)
    [ answer.Hole ↦ null | answer.Holds x ↦ pointer_at (cell_at X x.block).payload n | answer.Lost ↦ null ]

-- Values

-- the value of a slot in which this stands
abbrev pub value_in : Image → PathAnswer → Value
value_in X answer.Hole = Hole
value_in X (answer.Holds x) = Bytes (cell_at X x.block).payload
value_in X answer.Lost = Lost

-- the value of slot k of inode i
abbrev pub value : Image → ℕ → ℕ → Value
value X i k = value_in X (find X i (path_of k))

-- Which slot lies above which

-- a is the slot b or lies above it
abbrev pub IsAbove : Path → Path → Type 0
IsAbove a (InRecord n) = a ≡ InRecord n
IsAbove a (Under b n) = (a ≡ Under b n) ⊎ IsAbove a b

-- the slot above holds, where there is one
abbrev pub AboveHolds : Image → ℕ → Path → Type 0
AboveHolds X i (InRecord n) = Unit {0}
AboveHolds X i (Under a n) = (y : Pointer) × (find X i a ≡ answer.Holds y)
