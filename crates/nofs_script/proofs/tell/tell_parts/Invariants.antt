use Rattle.std.proofs.Common.{take, ◌≤◌}
use Rattle.nofs_script.specs.Parts.{parts_text}
use Rattle.nofs_script.specs.Telling.{GoesThrough}
use Rattle.nofs_script.proofs.tell.tell_parts.Given as goal

abbrev pub invariant-loop-part : goal.invariant-loop-part
invariant-loop-part g l = record {
  goes : GoesThrough (g.K.Sink.state l.initial.sink) (g.K.Sink.state l.sink) l.initial.room.items l.room.items
      (parts_text (take l.part-index l.parts));
  later : (g.K.Sink.state l.initial.sink).faults ≤ (g.K.Sink.state l.sink).faults;
}
