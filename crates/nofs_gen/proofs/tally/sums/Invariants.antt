use Rattle.std.proofs.Common.{◌≡◌, take}
use Rattle.std.specs.Prelude.{sum_by}
use Rattle.nofs_gen.specs.Tally.{sum_told}
use Rattle.nofs_gen.proofs.tally.sums.Given as goal

abbrev pub invariant-loop-read : goal.invariant-loop-read
invariant-loop-read l = l.total ≡ sum_by sum_told (take l.read-index l.reads)
