use Rattle.std.proofs.Common.{◌≡◌, ◌-◌, length, map}
use Rattle.nofs_gen.specs.Replay.{kept_value, padded}
use Rattle.nofs_gen.proofs.file.pad.Given as goal

abbrev pub invariant-loop-values : goal.invariant-loop-values
invariant-loop-values l = padded (map kept_value l.values.items) ≡ padded (map kept_value l.initial.values.items)

abbrev pub decreases-loop-values : goal.decreases-loop-values
decreases-loop-values l = 72 - length l.values.items
