use Rattle.std.proofs.Common.{◌∙◌, ap, cond, sym, w64}
use Rattle.std.proofs.lemmas.Nat.Bits.{bit_at_clear_other, bit_at_clear_same, bit_at_set_other, bit_at_set_same}
use Rattle.nofs_bits.proofs.with_bit.Goals as goal

pub returns-then-value-clause-there : goal.returns-then-value-clause-there
returns-then-value-clause-there c =
    bit_at_set_same w64 c.args.word c.args.bit c.requires ∙ ap (λ b. cond b 1 0) (sym c.if-value.true)

pub returns-then-value-clause-others : goal.returns-then-value-clause-others
returns-then-value-clause-others c i within other = bit_at_set_other w64 c.args.word c.args.bit c.requires i other

pub returns-else-value-clause-there : goal.returns-else-value-clause-there
returns-else-value-clause-there c =
    bit_at_clear_same w64 c.args.word c.args.bit c.requires ∙ ap (λ b. cond b 1 0) (sym c.if-value.false)

pub returns-else-value-clause-others : goal.returns-else-value-clause-others
returns-else-value-clause-others c i within other =
    bit_at_clear_other w64 c.args.word c.args.bit c.requires i within other
