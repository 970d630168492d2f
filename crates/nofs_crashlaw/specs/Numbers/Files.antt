-- The numbers in what the steps on files write: Put and Resize.
use Rattle.std.specs.Prelude.{◌≡◌, ℕ, ◌<◌, ◌⊎◌, true, false, List}
use Rattle.nofs_disk.specs.declared.tag.Pointer.{Pointer}
use Rattle.nofs_inode.specs.declared.inode.Record.{Record}
use Rattle.nofs_ptrs.specs.Paths.{slot_limit, Path, path_of, is_pointer_slot, IsSlot}
use Rattle.nofs_model.specs.Geometry.{Image, inode}
use Rattle.nofs_disk.specs.Disk.{cell_at}
use Rattle.nofs_model.specs.Slots.{find, record_pointer, IsAbove}
use Rattle.nofs_model.specs.Files.{FileState}
use Rattle.nofs_model.specs.declared.image.path.PathAnswer.TheVariants as answer
use Rattle.nofs_history.specs.World.{World}
use Rattle.nofs_history.specs.declared.machine.history.Claims.{Claims}
use Rattle.nofs_crashlaw.specs.Maps.Fresh.{Numbered, CellNumbers}
use Rattle.nofs_crashlaw.specs.Files.Puts.{PutLies, ClaimsPlaced}
use Rattle.nofs_crashlaw.specs.Files.Resizes.{is_cut, cut_at, ResizeLies}
use Rattle.nofs_crashlaw.specs.Numbers.Cells.{OldNumbers, RecordWritten}

-- the file's record at some moment of the step: each pointer is the one before or the one after, whatever its size
pub record FileRecord (X Y : Image) (i : ℕ) (r : Record) : Type 0 where
  pub generation : r.generation ≡ (inode X i).generation
  pub links : r.links ≡ (inode X i).links
  pub pointers : (n : ℕ) → n < 10 → (record_pointer r n ≡ record_pointer (inode X i) n)
      ⊎ (record_pointer r n ≡ record_pointer (inode Y i) n)

-- Put, in place or with claimed blocks: its content, and each block of pointers on the way to it.
abbrev pub LawPutCells : Type 0
LawPutCells = (W : World) (X Y : Image) (i g k at : ℕ) (bytes : List ℕ) (f : FileState) (s : ℕ)
    (places : Path → Pointer) (c : Claims)
    → OldNumbers W X → PutLies W.files X Y i g k at bytes f s places → ClaimsPlaced c X i k places
    → CellNumbers (Numbered W c) X (places (path_of k)).block (cell_at Y (places (path_of k)).block)
    × ((b : Path) → IsAbove b (path_of k)
    → is_pointer_slot b ≡ true → CellNumbers (Numbered W c) X (places b).block (cell_at Y (places b).block))

-- And its record.
abbrev pub LawPutRecord : Type 0
LawPutRecord = (W : World) (X Y : Image) (i g k at : ℕ) (bytes : List ℕ) (f : FileState) (s : ℕ)
    (places : Path → Pointer) (c : Claims)
    → OldNumbers W X → PutLies W.files X Y i g k at bytes f s places → ClaimsPlaced c X i k places
    → ((r : Record) → FileRecord X Y i r → RecordWritten W c X i r) × ((j : ℕ) → RecordWritten W c X j (inode Y j))

-- Resize: the content of a slot that holds, also with zeros behind the old end, and each block of pointers that stays.
abbrev pub LawResizeCells : Type 0
LawResizeCells = (W : World) (X Y : Image) (i g size : ℕ) (f : FileState) (s : ℕ) (c : Claims) → OldNumbers W X
    → ResizeLies W.files X Y i g size f s
    → ((k : ℕ) (y : Pointer) → k < slot_limit → find X i (path_of k) ≡ answer.Holds y
    → CellNumbers (Numbered W c) X y.block (cell_at Y y.block))
    × ((b : Path) (y : Pointer) → IsSlot b → is_pointer_slot b ≡ true → is_cut (cut_at f size) b ≡ false
    → find X i b ≡ answer.Holds y → CellNumbers (Numbered W c) X y.block (cell_at Y y.block))

-- And its record.
abbrev pub LawResizeRecord : Type 0
LawResizeRecord = (W : World) (X Y : Image) (i g size : ℕ) (f : FileState) (s : ℕ) (c : Claims) → OldNumbers W X
    → ResizeLies W.files X Y i g size f s
    → ((r : Record) → FileRecord X Y i r → RecordWritten W c X i r) × ((j : ℕ) → RecordWritten W c X j (inode Y j))
