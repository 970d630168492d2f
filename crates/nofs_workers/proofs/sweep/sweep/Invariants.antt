use Rattle.std.proofs.Common.{◌-◌, ◌≤◌, false}
use Rattle.nofs_workers.specs.Sweep.{Sweeps}
use Rattle.nofs_workers.proofs.sweep.sweep.Given as goal

abbrev pub invariant-loop-place : goal.invariant-loop-place
invariant-loop-place g l =
    Sweeps (g.O.Course.has_item l.order) l.kind 0 l.place false (g.S.Steps.made l.fn.steps) (g.S.Steps.made l.steps)
    × (l.place ≤ g.O.Course.count_of l.order)
    × g.S.Steps.goes l.fn.steps l.steps

abbrev pub decreases-loop-place : goal.decreases-loop-place
decreases-loop-place g l = g.O.Course.count_of l.order - l.place
