use Rattle.nofs_cases.proofs.OnNumbers.Cells.{content-cell-case, entry-in-hole-case, entry-in-place-case}
use Rattle.nofs_cases.proofs.OnNumbers.Cells.{table-changed-case, table-made-case}
use Rattle.nofs_cases.proofs.OnNumbers.Cells.{table-freed-case}
use Rattle.nofs_cases.proofs.numbers.law_cell_cases.Goals as goal

pub returns : goal.returns
returns c = record {
  content = content-cell-case;
  entry_in_hole = entry-in-hole-case;
  entry_in_place = entry-in-place-case;
  table_changed = table-changed-case;
  table_made = table-made-case;
  table_freed = table-freed-case;
}
