use Rattle.std.proofs.Common.{◌≡◌, ap, arith, length, sym, ◌∙◌}
use Rattle.nofs_bits.specs.Bits.{is_set, truths}
use Rattle.nofs_bits.proofs.Truths.{in_map, length-truths}
use Rattle.nofs_bits.proofs.Bits.next_set.Goals as goal

pub returns-then-self-from-clause-none : goal.returns-then-self-from-clause-none
returns-then-self-from-clause-none c none at low below =
    let words = c.deref.result.now in
    let places = c.self.inside.places in
    let is : truths words places ≡ c.args.self.now = ap (λ w. truths w places) c.deref.ensures.value ∙ c.self.view_is in
    ap (λ bits. is_set bits at) (sym is)
    ∙ c.next_within.ensures.none none at low (omega (arith, below, ap length is, length-truths words places))

pub returns-then-self-clause-found : goal.returns-then-self-clause-found
returns-then-self-clause-found c =
    let words = c.self.inside.words.items in
    let places = c.self.inside.places in
    let first = c.self.inside.first in
    let is = c.self.view_is in (
      c.if-self-from.false,
      in_map words places first c.args.self.now is c.if-self.true,
      ap (λ bits. is_set bits first) (sym is)
          ∙ c.self.invariant.2.set (omega (arith, c.if-self.true, length-truths words places)),
    )

pub returns-else-self-clause-none : goal.returns-else-self-clause-none
returns-else-self-clause-none c none at low below =
    let words = c.self.inside.words.items in
    let places = c.self.inside.places in
    let is = c.self.view_is in
    ap (λ bits. is_set bits at) (sym is)
    ∙ c.self.invariant.2.none at (omega arith)
    (omega (arith, below, c.if-self.false, ap length is, length-truths words places))
