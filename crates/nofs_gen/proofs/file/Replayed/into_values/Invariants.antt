use Rattle.std.proofs.Common.{◌≡◌, take, map}
use Rattle.nofs_gen.specs.Replay.{kept_value}
use Rattle.nofs_gen.proofs.file.Replayed.into_values.Given as goal

abbrev pub invariant-loop-kept : goal.invariant-loop-kept
invariant-loop-kept l = l.values.items ≡ map kept_value (take l.kept-index l.kept-items)
