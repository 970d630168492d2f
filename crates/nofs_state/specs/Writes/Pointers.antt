-- One pointer of a slot: where it stands, and what changing it does.
use Rattle.std.specs.Prelude.{◌≡◌, ℕ, ◌+◌, ◌-◌, ◌*◌, ◌/◌, ◌%◌, [], ◌∷◌, if◌then◌else◌, ◌==◌, IsTrue, Result, OnErr}
use Rattle.std.specs.Prelude.{OnOk}
use Rattle.nofs_disk.specs.declared.Failed.{Failed}
use Rattle.nofs_disk.specs.Disk.{DiskState, cell_at}
use Rattle.nofs_disk.specs.Pointer.{put_pointer}
use Rattle.nofs_ptrs.specs.Cells.{pointer_at}
use Rattle.nofs_disk.specs.declared.tag.Cell.{Cell}
use Rattle.nofs_disk.specs.declared.tag.Pointer.{Pointer}
use Rattle.nofs_ptrs.specs.Paths.{Path, InRecord, Under}
use Rattle.nofs_state.specs.Writes.Cells.{WritesAll, stopped_books}
use Rattle.nofs_state.specs.declared.books.maps.Books.{Books}
use Rattle.nofs_state.specs.declared.writes.pointers.SlotCells.{SlotCells}
use Rattle.nofs_state.specs.declared.writes.pointers.Spot.{Spot}

-- pointer n of a record among the 64 places of 16 bytes of its cell: a record has 16 places, and its pointers begin at
-- the sixth
abbrev pub record_number : ℕ → ℕ → ℕ
record_number i n = 16 * ((i - 1) % 4) + 6 + n

-- where the pointer of a slot stands, by the cells on the way to it
abbrev pub spot_at : SlotCells → ℕ → Path → Spot
spot_at cells i (InRecord n) = record { block = 1 + (i - 1) / 4; cell = cells.table; number = record_number i n }
spot_at cells i (Under (InRecord n) j) = record {
  block = (pointer_at cells.table.payload (record_number i n)).block;
  cell = if n == 9 then cells.top else cells.leaf;
  number = j;
}
spot_at cells i (Under (Under a j) q) =
    record { block = (pointer_at cells.top.payload j).block; cell = cells.leaf; number = q }

-- the cell with that pointer, and all else as it was
pub record IsPointed (spot : Spot) (to : Pointer) (cell : Cell) : Type 0 where
  pub tag : cell.tag ≡ spot.cell.tag
  pub payload : cell.payload ≡ put_pointer (16 * spot.number) to spot.cell.payload
  pub pointer : pointer_at cell.payload spot.number ≡ to

-- One write of that cell. Where it succeeds, the disk has the cell with that one pointer changed; where it fails, the
-- mount is stopped
pub record SetsPointer (old : DiskState) (k : Books) (new : DiskState) (l : Books) (spot : Spot) (to : Pointer)
    (result : Result (Unit {0}) Failed)
    : Type 0 where
  pub cell : Cell
  pub pointed : IsPointed spot to cell
  pub writes : WritesAll old new ((spot.block, cell) ∷ []) result
  pub told : IsTrue old.tells → spot.cell ≡ cell_at old.now spot.block
  pub done : OnOk result (l ≡ k)
  pub stopped : OnErr result (l ≡ stopped_books k)
