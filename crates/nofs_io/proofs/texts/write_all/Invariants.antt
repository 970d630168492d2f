use Rattle.std.proofs.Common.{length, take, ◌-◌, ◌≤◌}
use Rattle.nofs_io.specs.Texts.{AppendsAll}
use Rattle.nofs_io.proofs.texts.write_all.Given as goal

abbrev pub invariant-loop-at : goal.invariant-loop-at
invariant-loop-at g l =
    (l.at ≤ length l.text)
    × AppendsAll (g.K.Sink.state l.initial.sink) (g.K.Sink.state l.sink) (take l.at l.text)
    × ((g.K.Sink.state l.initial.sink).faults ≤ (g.K.Sink.state l.sink).faults)

abbrev pub decreases-loop-at : goal.decreases-loop-at
decreases-loop-at g l = length l.text - l.at
