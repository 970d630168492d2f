use Rattle.std.proofs.Common.{take}
use Rattle.nofs_workers.specs.Sweep.{Makes}
use Rattle.nofs_workers.proofs.sweep.see_each.Given as goal

abbrev pub invariant-loop-element : goal.invariant-loop-element
invariant-loop-element g l =
    Makes l.kind (take l.element-index l.elements) (g.S.Steps.made l.fn.steps) (g.S.Steps.made l.steps)
    × g.S.Steps.goes l.fn.steps l.steps
