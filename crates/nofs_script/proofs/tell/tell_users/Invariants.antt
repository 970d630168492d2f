use Rattle.std.proofs.Common.{take, flat_map, ◌≤◌}
use Rattle.nofs_script.specs.Text.{text_of}
use Rattle.nofs_script.specs.Telling.{GoesThrough}
use Rattle.nofs_script.proofs.tell.tell_users.Given as goal

abbrev pub invariant-loop-lines : goal.invariant-loop-lines
invariant-loop-lines g l = record {
  goes : GoesThrough (g.K.Sink.state l.initial.sink) (g.K.Sink.state l.sink) l.initial.room.items l.room.items
      (flat_map (λ lines. flat_map text_of lines) (take l.lines-index l.users));
  later : (g.K.Sink.state l.initial.sink).faults ≤ (g.K.Sink.state l.sink).faults;
}
