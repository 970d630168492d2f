use Rattle.std.proofs.Common.{◌∙◌, arith, refl}
use Rattle.nofs_cache.proofs.OnDirty.{left_start}
use Rattle.nofs_cache.proofs.dirty.writes.forget_first.Goals as goal

pub loop-place-init : goal.loop-place-init
loop-place-init c = (
  left_start _ _ c.requires.order,
  record { each = λ e has. has },
  omega arith,
  record { order = refl; blocks = refl; room = omega arith },
)

pub forget_next-requires-clause-place : goal.forget_next-requires-clause-place
forget_next-requires-clause-place c =
    let same = c.loop-place.invariant.3.order in
    let all = c.requires.places in
    let low = c.loop-place-test.true in
    rw same (omega arith)

pub loop-place-preserved : goal.loop-place-preserved
loop-place-preserved c =
    let before = c.loop-place.invariant in
    let did = c.forget_next.ensures in
    let fewer = did.fewer in
    let had = before.2 in
    let room = before.3.room in
    let more_room = did.keeps.room in (
      rw (← before.3.order, ← did.keeps.order) did.left,
      record { each = λ e has. before.1.each e (did.among.each e has) },
      omega arith,
      record {
        order = did.keeps.order ∙ before.3.order;
        blocks = did.keeps.blocks ∙ before.3.blocks;
        room = omega arith;
      },
    )
