use Rattle.std.proofs.Common.{◌≡◌}
use Rattle.nofs_pages.specs.Sums.{lanes_after}
use Rattle.nofs_pages.proofs.sum.sum_of.Given as goal

abbrev pub invariant-loop-at : goal.invariant-loop-at
invariant-loop-at l = l.lanes ≡ lanes_after l.seed l.bytes l.at
