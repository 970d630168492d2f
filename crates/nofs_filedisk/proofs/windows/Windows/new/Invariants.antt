use Rattle.nofs_filedisk.proofs.OnWindows.{ShowNothing}
use Rattle.nofs_filedisk.proofs.windows.Windows.new.Given as goal

abbrev pub invariant-loop : goal.invariant-loop
invariant-loop l = ShowNothing l.counter l.windows.items
