use Rattle.std.proofs.Common.{arith}
use Rattle.nofs_script.specs.Parts.{part_text}
use Rattle.nofs_script.proofs.OnTelling.{piece-goes, piece-stops}
use Rattle.nofs_script.proofs.tell.tell_parts.Goals as goal

pub loop-part-preserved : goal.loop-part-preserved
loop-part-preserved g c =
    let S = g.K.Sink.state in
    let at = c.loop-part in
    let told = c.in_ok-tell_part.ensures in
    record {
      goes = piece-goes part_text c.args.parts.now at.part-index _ (S c.args.sink.now) (S at.sink)
          (S c.tell_part.new.sink)
          c.args.room.now.items at.room.items c.tell_part.new.room.items c.loop-part-test.true
          at.invariant.goes told.whole;
      later = omega (arith, at.invariant.later, told.cause.later);
    }

pub returns-in_err-tell_part : goal.returns-in_err-tell_part
returns-in_err-tell_part g c =
    let S = g.K.Sink.state in
    let at = c.loop-part in
    let told = c.in_err-tell_part.ensures in
    piece-stops c.from_residual.result part_text c.args.parts.now at.part-index _ (S c.args.sink.now) (S at.sink)
    (S c.tell_part.new.sink)
    c.args.room.now.items at.room.items c.tell_part.new.room.items c.loop-part-test.true
    c.from_residual.ensures.0 at.invariant.goes at.invariant.later told.part told.cause.later told.cause.failed
