use Rattle.std.proofs.Common.{arith}
use Rattle.nofs_tool.specs.Begin.Lines.{part_text, parts_text}
use Rattle.nofs_script.proofs.OnTelling.{rose-later}
use Rattle.nofs_tool.proofs.OnRuns.Parts.{pieces-part, stopped}
use Rattle.nofs_tool.proofs.runs.says.say_parts.Goals as goal

pub returns-in_err-say_part : goal.returns-in_err-say_part
returns-in_err-say_part g c =
    let S = g.K.Sink.state in
    let old = S c.args.sink.now in
    let mid = S c.loop-part.sink in
    let new = S c.say_part.new.sink in
    let parts = c.args.parts.now in
    let told = c.in_err-say_part.ensures in
    let before = c.loop-part.invariant in
    stopped c.from_residual.result old new (parts_text parts) c.from_residual.ensures.0
    (pieces-part part_text parts c.loop-part.part-index _ old mid new (omega arith) before.told told.part)
    (omega (arith, before.later, told.cause.later))
    (rose-later old.faults mid.faults new.faults before.later told.cause.failed)
