use Rattle.std.proofs.Common.{◌++◌, ◌∙◌, ℕ, List, append_assoc, arith, rules, subst}
use Rattle.std.specs.Slice.Iter.{chunks_rest}
use Rattle.hex.specs.Hex.{encode_lower}
use Rattle.nofs_script.specs.Telling.{GoesThrough}
use Rattle.nofs_script.proofs.OnTelling.{digits-done, digits-left, goes-on, tells-same, tells-stopped}
use Rattle.nofs_script.proofs.tell.tell_digits.Goals as goal

pub loop-chunk-preserved : goal.loop-chunk-preserved
loop-chunk-preserved g c =
    let S = g.K.Sink.state in
    let at = c.loop-chunk in
    let chunk = encode_lower c.in-Some.chunk.now in
    let steps = c.in-Some.ensures.steps in
    let so_far = at.invariant.4 in
    let told = c.in_ok-tell_slot.ensures in (
      search rules,
      tt,
      steps.0 ∙ at.invariant.2,
      omega (arith, at.invariant.3, told.cause.later),
      (
        so_far.0 ++ chunk,
        goes-on (S c.args.sink.now) (S at.sink) (S c.tell_slot.new.sink) c.args.room.now.items at.room.items
            c.tell_slot.new.room.items so_far.0 chunk so_far.1 told.whole,
        append_assoc so_far.0 chunk (encode_lower (chunks_rest c.next.new.self))
            ∙ digits-left so_far.0 c.in-Some.chunk.now (chunks_rest c.next.new.self) (chunks_rest at.chunk-iterator)
            (encode_lower c.args.bytes.now) steps.1.0 so_far.2,
      ),
    )

pub returns-in_err-tell_slot : goal.returns-in_err-tell_slot
returns-in_err-tell_slot g c =
    let S = g.K.Sink.state in
    let at = c.loop-chunk in
    let steps = c.in-Some.ensures.steps in
    let so_far = at.invariant.4 in
    let told = c.in_err-tell_slot.ensures in
    tells-same c.from_residual.result (S c.args.sink.now) (S c.tell_slot.new.sink) c.args.room.now.items
    c.tell_slot.new.room.items _ _
    (digits-left so_far.0 c.in-Some.chunk.now (chunks_rest c.next.new.self) (chunks_rest at.chunk-iterator)
    (encode_lower c.args.bytes.now) steps.1.0 so_far.2)
    (tells-stopped c.from_residual.result (S c.args.sink.now) (S at.sink) (S c.tell_slot.new.sink) c.args.room.now.items
    at.room.items c.tell_slot.new.room.items so_far.0 (encode_lower c.in-Some.chunk.now)
    (encode_lower (chunks_rest c.next.new.self)) c.from_residual.ensures.0 so_far.1 at.invariant.3 told.part
    told.cause.later told.cause.failed)

pub returns : goal.returns
returns g c =
    let S = g.K.Sink.state in
    let at = c.loop-chunk in
    let so_far = at.invariant.4 in
    record {
      whole = subst
          (λ (l : List ℕ). GoesThrough (S c.args.sink.now) (S at.sink) c.args.room.now.items at.room.items l)
          (digits-done so_far.0 (chunks_rest at.chunk-iterator) (encode_lower c.args.bytes.now)
          c.in-None.ensures.steps.1.0 so_far.2) so_far.1;
      part = tt;
      cause = record { later = at.invariant.3; failed = tt };
    }
