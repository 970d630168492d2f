use Rattle.std.proofs.Common.{◌≡◌}
use Rattle.nofs_workers.proofs.OnFlusher.{After}
use Rattle.nofs_workers.proofs.flusher.write_out_each.Given as goal

abbrev pub invariant-loop : goal.invariant-loop
invariant-loop g l =
    (g.S.Steps.made l.steps ≡ g.S.Steps.made l.fn.steps)
    × After g.S.WritesOut.wrote l.counter l.fn.steps l.steps
    × g.S.Steps.goes l.fn.steps l.steps
