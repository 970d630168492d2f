use Rattle.std.proofs.Common.{◌<◌, ℕ}
use Rattle.nofs_disk.specs.Disk.{IsSizedCell, cell_at}
use Rattle.nofs_history.proofs.accepted.base.note_sizes.Given as goal

abbrev pub invariant-loop-cell : goal.invariant-loop-cell
invariant-loop-cell l = (b : ℕ) → b < l.cell-index → IsSizedCell (cell_at l.base b)
