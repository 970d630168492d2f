use Rattle.std.proofs.Common.{◌+◌, ◌-◌, ◌*◌, ◌≤◌, length}
use Rattle.nofs_wire.proofs.OnServer.Serve.{Along}
use Rattle.nofs_wire.proofs.server.serve.serve_up_to.Given as goal

abbrev pub invariant-loop-end : goal.invariant-loop-end
invariant-loop-end g l =
    Along (g.Q.Source.state l.initial.source).left (g.Q.Source.state l.source).left
    (g.K.Sink.state l.initial.sink).given (g.K.Sink.state l.sink).given
    (g.S.Steps.made l.initial.steps) (g.S.Steps.made l.steps) l.buffers
    × (l.buffers.taken ≤ l.limit)
    × g.S.Steps.goes l.initial.steps l.steps
    × ((g.Q.Source.state l.initial.source).faults ≤ (g.Q.Source.state l.source).faults)
    × ((g.K.Sink.state l.initial.sink).faults ≤ (g.K.Sink.state l.sink).faults)

abbrev pub decreases-loop-end : goal.decreases-loop-end
decreases-loop-end g l = 2 * (l.limit - l.buffers.taken) + length l.buffers.window
