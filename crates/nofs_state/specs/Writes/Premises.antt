-- What the write of a step asks of its caller: that no row refuses the step, and a record in its cell.
use Rattle.std.specs.Prelude.{◌≡◌, ℕ, ◌-◌, ◌%◌, ◌<◌, ◌≢◌, List, Some, None, IsTrue}
use Rattle.nofs_disk.specs.Disk.{DiskState}
use Rattle.nofs_disk.specs.declared.tag.Cell.{Cell}
use Rattle.nofs_inode.specs.declared.inode.Record.{Record}
use Rattle.nofs_inode.specs.InodeRecords.{record_of}
use Rattle.nofs_history.specs.Search.{first_of}
use Rattle.nofs_history.specs.World.{World}
use Rattle.nofs_history.specs.Refusals.{rows}
use Rattle.nofs_history.specs.declared.machine.history.Entry1.{Entry1}
use Rattle.nofs_history.specs.declared.machine.steps.Step.{Step}
use Rattle.nofs_state.specs.Cores.Invariant.{IsOpen, Past}
use Rattle.nofs_state.specs.declared.books.maps.Books.{Books}

-- a cell of the table with another record of inode i in it
pub record RecordIn (old : Cell) (i : ℕ) (r : Record) (new : Cell) : Type 0 where
  pub here : record_of ((i - 1) % 4) new.payload ≡ Some r
  pub others : (j : ℕ) → j ≢ (i - 1) % 4 → j < 4 → record_of j new.payload ≡ record_of j old.payload

-- no row refuses the step
abbrev pub RowsPass : DiskState → Books → Step → Type 0
RowsPass d k s = IsTrue d.tells → (H : List Entry1) (p : Past) → IsOpen d k H p
    → (V : World) → first_of (rows p.world V s) ≡ None
