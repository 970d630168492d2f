use Rattle.std.proofs.Common.{◌≡◌, ◌+◌, ℕ, Bool, List, false, length, slice_set, ap, arith, subst, sym, ◌∙◌}
use Rattle.std.proofs.lemmas.List.{length-set}
use Rattle.nofs_bits.specs.Bits.{IsFirst, NoneSet, truths}
use Rattle.nofs_bits.proofs.Firsts.{first_moves}
use Rattle.nofs_bits.proofs.Truths.{length-truths}
use Rattle.nofs_bits.proofs.first_after.Goals as goal

pub returns-in-None : goal.returns-in-None
returns-in-None c bits is first =
    let words = c.args.words.now in
    let places = c.args.places in
    let at = c.args.at in
    let long : length bits ≡ places = sym (length-set bits at c.args.value) ∙ ap length (sym is)
    ∙ length-truths words places in
    let least : IsFirst bits at = subst (λ (k : ℕ). IsFirst bits k) (sym c.if-at-first-2.false) first in
    let cleared : truths words places ≡ slice_set bits at false = is ∙ ap (slice_set bits at) c.if-value.false in
    let none = subst (λ (l : List Bool). NoneSet l (at + 1) places) cleared (c.next_within.ensures.none c.in-None.is) in
    subst (λ (v : Bool). IsFirst (slice_set bits at v) places) (sym c.if-value.false)
    (first_moves bits at places (omega (arith, c.requires.at, long)) least none
    (λ inside. absurd (omega (arith, inside, long))))
