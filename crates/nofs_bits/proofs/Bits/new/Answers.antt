use Rattle.std.proofs.Common.{Bool, List, ◌∙◌, ap, arith, subst, sym}
use Rattle.nofs_bits.specs.Bits.{IsFirst, count_set, truths}
use Rattle.nofs_bits.proofs.Firsts.{first_none}
use Rattle.nofs_bits.proofs.Truths.{count_clear, truths_clear}
use Rattle.nofs_bits.proofs.Bits.new.Goals as goal

pub returns : goal.returns
returns c =
    let clear = c.in_ok-vec.ensures.items_if_clones_equal (λ y same. same) in
    ap (λ words. truths words c.args.n) clear ∙ sym (truths_clear _ c.args.n)

pub invariant_of-result : goal.invariant_of-result
invariant_of-result c = (
  omega (arith, c.in_ok-vec.ensures.len, c.div_ceil.ensures),
  sym (ap count_set (returns c) ∙ count_clear c.args.n),
  subst (λ (bits : List Bool). IsFirst bits c.args.n) (sym (returns c)) (first_none c.args.n),
)
