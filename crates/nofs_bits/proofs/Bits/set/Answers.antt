use Rattle.std.proofs.Common.{ℕ, Bool, List, subst, ◌≡◌, ◌≢◌, get_or, ◌%◌, ◌/◌, ◌<◌, ◌∙◌, ap, arith, length, sym}
use Rattle.std.proofs.lemmas.Grind.{get_or_default_zero}
use Rattle.std.specs.Int.{bit_at}
use Rattle.std.specs.Prelude.{slice_set}
use Rattle.nofs_bits.specs.Bits.{IsFirst, count_set, truths}
use Rattle.nofs_bits.proofs.Truths.{count_changed, length-truths, truths_set, within_places}
use Rattle.nofs_bits.proofs.Bits.set.Goals as goal

pub index-requires : goal.index-requires
index-requires c =
    let within = within_places c.self.inside.words.items c.self.inside.places c.args.at _ c.self.view_is c.requires in
    omega (arith, c.self.invariant.0)

pub index_mut-requires : goal.index_mut-requires
index_mut-requires c =
    let within = within_places c.self.inside.words.items c.self.inside.places c.args.at _ c.self.view_is c.requires in
    omega (arith, c.self.invariant.0)

pub overflow_add-self : goal.overflow_add-self
overflow_add-self c =
    let now = c.self.view_is in
    let counted = count_changed c.args.self.now c.args.at c.self.inside.set_places c.get-was.result c.args.value
    c.requires c.get-was.ensures
    (c.self.invariant.1 ∙ ap count_set now) in
    omega (arith, counted.0, counted.2, ap length now, length-truths c.self.inside.words.items c.self.inside.places)

pub returns : goal.returns
returns c =
    let words = c.self.inside.words.items in
    let places = c.self.inside.places in
    let at = c.args.at in
    let within = within_places words places at _ c.self.view_is c.requires in
    let inside : at / 64 < length words = omega (arith, c.self.invariant.0) in
    let word = c.index.ensures ∙ get_or_default_zero words (at / 64) _ inside in
    let others : (i : ℕ) → i < 64 → i ≢ at % 64 → bit_at c.with_bit.result i ≡ bit_at (get_or words (at / 64) 0) i =
    λ i below other. c.with_bit.ensures.others i below other ∙ ap (λ w. bit_at w i) word in
    sym (truths_set words places at c.with_bit.result c.args.value within inside c.with_bit.ensures.there others)
    ∙ ap (λ bits. slice_set bits at c.args.value) c.self.view_is

pub first_after-self-inside-requires-clause-at : goal.first_after-self-inside-requires-clause-at
first_after-self-inside-requires-clause-at c =
    within_places c.self.inside.words.items c.self.inside.places c.args.at _ c.self.view_is c.requires

pub invariant_of-self : goal.invariant_of-self
invariant_of-self c =
    let places = c.self.inside.places in
    let counted = count_changed c.args.self.now c.args.at c.self.inside.set_places c.get-was.result c.args.value
    c.requires c.get-was.ensures
    (c.self.invariant.1 ∙ ap count_set c.self.view_is) in
    let first = c.self.inside.first in
    let least = subst (λ (bits : List Bool). IsFirst bits first) c.self.view_is c.self.invariant.2 in
    let now = ap (λ w. truths w places) c.deref.ensures.value ∙ returns c in (
      c.self.invariant.0,
      counted.0 ∙ ap count_set (sym (returns c)),
      subst (λ (bits : List Bool). IsFirst bits c.first_after-self-inside.result) (sym (returns c))
          (c.first_after-self-inside.ensures c.args.self.now now least),
    )
