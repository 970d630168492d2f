use Rattle.std.proofs.Common.{arith, ap, flat_map, refl}
use Rattle.nofs_script.specs.Text.{text_of}
use Rattle.nofs_script.proofs.OnTelling.{item-goes, item-stops, tells-same}
use Rattle.nofs_script.proofs.tell.tell_lines.Goals as goal

pub loop-line-preserved : goal.loop-line-preserved
loop-line-preserved g c =
    let S = g.K.Sink.state in
    let at = c.loop-line in
    let told = c.in_ok-tell_line.ensures in
    record {
      goes = item-goes text_of c.as_slice-line-items.result.now at.line-index c.line-item.result (S c.args.sink.now)
          (S at.sink) (S c.tell_line.new.sink)
          c.args.room.now.items at.room.items c.tell_line.new.room.items _ c.loop-line-test.true
          c.line-item.is refl at.invariant.goes told.whole;
      later = omega (arith, at.invariant.later, told.cause.later);
    }

pub returns-in_err-tell_line : goal.returns-in_err-tell_line
returns-in_err-tell_line g c =
    let S = g.K.Sink.state in
    let at = c.loop-line in
    let told = c.in_err-tell_line.ensures in
    tells-same c.from_residual.result (S c.args.sink.now) (S c.tell_line.new.sink) c.args.room.now.items
    c.tell_line.new.room.items _ _ (ap (flat_map text_of) c.as_slice-line-items.ensures)
    (item-stops c.from_residual.result text_of c.as_slice-line-items.result.now at.line-index c.line-item.result
    (S c.args.sink.now) (S at.sink) (S c.tell_line.new.sink)
    c.args.room.now.items at.room.items c.tell_line.new.room.items _ c.loop-line-test.true c.line-item.is refl
    c.from_residual.ensures.0 at.invariant.goes at.invariant.later told.part told.cause.later told.cause.failed)
