use Rattle.nofs_files.proofs.OnResizes.Cells.{Cutting}
use Rattle.nofs_files.proofs.resizes.cuts.cut_pointers.Given as goal

abbrev pub invariant-loop-place : goal.invariant-loop-place
invariant-loop-place l = Cutting l.from l.place l.fn.payload l.payload
