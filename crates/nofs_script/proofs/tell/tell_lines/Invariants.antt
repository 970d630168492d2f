use Rattle.std.proofs.Common.{take, flat_map, ◌≤◌}
use Rattle.nofs_script.specs.Text.{text_of}
use Rattle.nofs_script.specs.Telling.{GoesThrough}
use Rattle.nofs_script.proofs.tell.tell_lines.Given as goal

abbrev pub invariant-loop-line : goal.invariant-loop-line
invariant-loop-line g l = record {
  goes : GoesThrough (g.K.Sink.state l.initial.sink) (g.K.Sink.state l.sink) l.initial.room.items l.room.items
      (flat_map text_of (take l.line-index l.line-items));
  later : (g.K.Sink.state l.initial.sink).faults ≤ (g.K.Sink.state l.sink).faults;
}
