use Rattle.std.proofs.Common.{arith, flat_map, refl}
use Rattle.std.proofs.Common.{List}
use Rattle.nofs_client.specs.declared.task.lines.Line.{Line}
use Rattle.nofs_script.specs.Text.{text_of}
use Rattle.nofs_script.proofs.OnTelling.{item-goes, item-stops}
use Rattle.nofs_script.proofs.tell.tell_users.Goals as goal

pub loop-lines-preserved : goal.loop-lines-preserved
loop-lines-preserved g c =
    let S = g.K.Sink.state in
    let at = c.loop-lines in
    let told = c.in_ok-tell_lines.ensures in
    record {
      goes = item-goes (λ (lines : List Line). flat_map text_of lines) c.args.users.now at.lines-index
          c.lines-item.result (S c.args.sink.now) (S at.sink) (S c.tell_lines.new.sink)
          c.args.room.now.items at.room.items c.tell_lines.new.room.items _ c.loop-lines-test.true
          c.lines-item.is refl at.invariant.goes told.whole;
      later = omega (arith, at.invariant.later, told.cause.later);
    }

pub returns-in_err-tell_lines : goal.returns-in_err-tell_lines
returns-in_err-tell_lines g c =
    let S = g.K.Sink.state in
    let at = c.loop-lines in
    let told = c.in_err-tell_lines.ensures in
    item-stops c.from_residual.result (λ (lines : List Line). flat_map text_of lines) c.args.users.now at.lines-index
    c.lines-item.result (S c.args.sink.now) (S at.sink) (S c.tell_lines.new.sink)
    c.args.room.now.items at.room.items c.tell_lines.new.room.items _ c.loop-lines-test.true c.lines-item.is refl
    c.from_residual.ensures.0 at.invariant.goes at.invariant.later told.part told.cause.later told.cause.failed
