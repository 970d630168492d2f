use Rattle.std.proofs.Common.{ap, ℕ}
use Rattle.arrayvec.specs.ArrayVec.{ArrayVec}
use Rattle.nofs_script.proofs.OnTelling.{tells-straight, then-tells}
use Rattle.nofs_script.proofs.tell.tell_next.Goals as goal

pub returns-in-Err : goal.returns-in-Err
returns-in-Err g c =
    let S = g.K.Sink.state in
    let b = c.in_ok-empty.ensures in
    then-tells c.write_all.result (S c.args.sink.now) (S c.empty.new.sink)
    (S c.write_all.new.sink) c.args.room.now.items
    c.empty.new.room.items c.try_extend_from_slice.new.self.items _ c.args.bytes.now b.goes.whole b.goes.cause.later
    (tells-straight c.write_all.result (S c.empty.new.sink) (S c.write_all.new.sink) c.empty.new.room.items
    c.try_extend_from_slice.new.self.items c.args.bytes.now b.empty
    (ap (λ (v : ArrayVec ℕ). v.items) c.in-Err.ensures.err) c.write_all.ensures.whole
    c.write_all.ensures.part c.write_all.ensures.cause)
