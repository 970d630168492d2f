use Rattle.std.proofs.Common.{take}
use Rattle.std.specs.Prelude.{All}
use Rattle.nofs_scan.specs.Steps.Elements.{HasElement}
use Rattle.nofs_shared.proofs.mount.batches.are_elements.Given as goal

abbrev pub invariant-loop-place : goal.invariant-loop-place
invariant-loop-place l = All (HasElement l.kind l.at) (take l.place l.items)
