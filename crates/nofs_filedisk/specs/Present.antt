-- What a read gives: the cells of the file, with the run that is not yet in it in their place.
use Rattle.std.specs.Prelude.{◌≡◌, ℕ, ◌+◌, ◌*◌, ◌/◌, ◌%◌, ◌<◌, ◌≤◌, ◌⊎◌, IsTrue, List, length, slice_range, slice_set}
use Rattle.nofs_disk.specs.declared.tag.Cell.{Cell}
use Rattle.nofs_disk.specs.Disk.{cell_at}
use Rattle.nofs_disk.specs.CellsOfBytes.{cell_in}
use Rattle.nofs_filedisk.specs.Bytes.{HostFileState}
use Rattle.nofs_filedisk.specs.declared.run.Run.{Run}

-- a block has a place in a run: in the same window one of its cells, the one before them or the one behind them
pub record HasPlace (run : Run) (block : ℕ) : Type 0 where
  pub window : block / 66 ≡ run.first / 66
  pub low : run.first ≤ block + 1
  pub high : block ≤ run.first + run.count

-- the bytes of the cells of a run, which lie from the place of its first one in its window on
abbrev pub run_bytes : Run → List ℕ
run_bytes run = slice_range run.bytes.items (1056 * (run.first % 66)) (1056 * (run.first % 66) + 1056 * run.count)

-- these are the cells that reads give
pub record IsPresent (bytes : List ℕ) (run : Run) (now : List Cell) : Type 0 where
  pub inside : (b : ℕ) → run.first ≤ b → b < run.first + run.count → cell_at now b ≡ cell_in run.bytes.items (b % 66)
  pub before : (b : ℕ) → b < 1048576 → b < run.first → cell_at now b ≡ cell_in bytes b
  pub behind : (b : ℕ) → b < 1048576 → run.first + run.count ≤ b → cell_at now b ≡ cell_in bytes b

-- what reads give stays
abbrev pub StaysPresent : HostFileState → Run → HostFileState → Run → Type 0
StaysPresent old before new after = IsTrue old.tells → (now : List Cell) → IsPresent old.bytes before now
    → IsPresent new.bytes after now

-- the file has each cell that reads gave
abbrev pub HasAllCells : HostFileState → Run → HostFileState → Type 0
HasAllCells old before new =
    IsTrue old.tells → (now : List Cell) → IsPresent old.bytes before now
    → (b : ℕ) → b < 1048576 → cell_at now b ≡ cell_in new.bytes b

-- of each block the durable cell is what it was, or what a read gives
abbrev pub LastsOrPresent : HostFileState → Run → HostFileState → Type 0
LastsOrPresent old before new =
    IsTrue old.tells → (now : List Cell) → IsPresent old.bytes before now → (b : ℕ) → b < 1048576
    → (cell_in new.durable b ≡ cell_in old.durable b) ⊎ (cell_in new.durable b ≡ cell_at now b)

-- a read of this block gives this cell, and what reads of others give stays
abbrev pub TakesCell : HostFileState → Run → HostFileState → Run → ℕ → Cell → Type 0
TakesCell old before new after block cell =
    IsTrue old.tells → (now : List Cell) → length now ≡ 1048576 → IsPresent old.bytes before now
    → IsPresent new.bytes after (slice_set now block cell)
