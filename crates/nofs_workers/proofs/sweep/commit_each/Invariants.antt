use Rattle.std.proofs.Common.{take}
use Rattle.nofs_workers.specs.Sweep.{Makes}
use Rattle.nofs_workers.proofs.sweep.commit_each.Given as goal

abbrev pub invariant-loop-at : goal.invariant-loop-at
invariant-loop-at g l =
    let looked = g.S.Batches.looked l.evidence in
    Makes looked.kind (take l.at looked.items) (g.S.Steps.made l.fn.steps) (g.S.Steps.made l.steps)
    × g.S.Batches.owns l.steps l.evidence
    × g.S.Steps.goes l.fn.steps l.steps
