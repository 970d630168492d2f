use Rattle.std.proofs.Common.{◌≡◌, take}
use Rattle.std.specs.Prelude.{sum_by}
use Rattle.nofs_gen.specs.Tally.{size_told}
use Rattle.nofs_gen.proofs.tally.sizes.Given as goal

abbrev pub invariant-loop-read : goal.invariant-loop-read
invariant-loop-read l = l.total ≡ sum_by size_told (take l.read-index l.reads)
