use Rattle.std.proofs.Common.{◌+◌, arith, sym, subst, List, Bool, le_refl}
use Rattle.nofs_state.specs.Books.Maps.{SetsFrom}
use Rattle.nofs_state.proofs.OnBooks.Bits.{sets-begins, sets-goes, sets-ends}
use Rattle.nofs_state.proofs.books.maps.all_from.Goals as goal

pub loop-place-init : goal.loop-place-init
loop-place-init c = (
  subst (λ (bits : List Bool). SetsFrom c.args.places c.args.from c.args.from bits)
      (sym (c.in_ok-bits.ensures {u = tt}))
      (sets-begins c.args.places c.args.from),
  le_refl c.args.from,
)

pub loop-place-preserved : goal.loop-place-preserved
loop-place-preserved c = (
  subst (λ (bits : List Bool). SetsFrom c.args.places c.args.from (c.loop-place.place + 1) bits) (sym c.set.ensures)
      (sets-goes c.args.places c.args.from c.loop-place.place c.loop-place.bits c.loop-place.invariant.0
      c.loop-place.invariant.1 c.loop-place-test.true),
  (let low = c.loop-place.invariant.1 in omega (arith, low)),
)

pub set-requires : goal.set-requires
set-requires c = let e = c.loop-place.invariant.0.len in omega (arith, e)

pub returns : goal.returns
returns c = sets-ends c.args.places c.args.from c.loop-place.place c.loop-place.bits c.loop-place.invariant.0
    c.loop-place-test.false
