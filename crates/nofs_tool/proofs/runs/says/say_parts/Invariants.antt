use Rattle.std.proofs.Common.{take, ◌≤◌}
use Rattle.nofs_io.specs.Texts.{AppendsAll}
use Rattle.nofs_tool.specs.Begin.Lines.{parts_text}
use Rattle.nofs_tool.proofs.runs.says.say_parts.Given as goal

abbrev pub invariant-loop-part : goal.invariant-loop-part
invariant-loop-part g l = record {
  told : AppendsAll (g.K.Sink.state l.initial.sink) (g.K.Sink.state l.sink) (parts_text (take l.part-index l.parts));
  later : (g.K.Sink.state l.initial.sink).faults ≤ (g.K.Sink.state l.sink).faults;
}
