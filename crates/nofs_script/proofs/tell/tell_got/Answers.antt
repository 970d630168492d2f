use Rattle.std.proofs.Common.{arith, ap, flat_map}
use Rattle.nofs_script.specs.Text.{got_text}
use Rattle.nofs_script.proofs.OnTelling.{item-goes, item-stops, tells-same}
use Rattle.nofs_script.proofs.tell.tell_got.Goals as goal

pub loop-part-preserved : goal.loop-part-preserved
loop-part-preserved g c =
    let S = g.K.Sink.state in
    let at = c.loop-part in
    let told = c.in_ok-tell_parts.ensures in
    record {
      goes = item-goes got_text c.as_slice-part-items.result.now at.part-index c.part-item.result (S c.args.sink.now)
          (S at.sink) (S c.tell_parts.new.sink)
          c.args.room.now.items at.room.items c.tell_parts.new.room.items _ c.loop-part-test.true
          c.part-item.is c.got_parts.ensures at.invariant.goes told.whole;
      later = omega (arith, at.invariant.later, told.cause.later);
    }

pub returns-in_err-tell_parts : goal.returns-in_err-tell_parts
returns-in_err-tell_parts g c =
    let S = g.K.Sink.state in
    let at = c.loop-part in
    let told = c.in_err-tell_parts.ensures in
    tells-same c.from_residual.result (S c.args.sink.now) (S c.tell_parts.new.sink) c.args.room.now.items
    c.tell_parts.new.room.items _ _ (ap (flat_map got_text) c.as_slice-part-items.ensures)
    (item-stops c.from_residual.result got_text c.as_slice-part-items.result.now at.part-index c.part-item.result
    (S c.args.sink.now) (S at.sink) (S c.tell_parts.new.sink)
    c.args.room.now.items at.room.items c.tell_parts.new.room.items _ c.loop-part-test.true c.part-item.is
    c.got_parts.ensures
    c.from_residual.ensures.0 at.invariant.goes at.invariant.later told.part told.cause.later told.cause.failed)
