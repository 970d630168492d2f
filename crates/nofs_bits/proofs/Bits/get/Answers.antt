use Rattle.std.proofs.Common.{◌%◌, ◌∙◌, ap, arith, eqb, sym}
use Rattle.std.proofs.lemmas.Grind.{get_or_default_zero}
use Rattle.std.specs.Int.{bit_at}
use Rattle.nofs_bits.specs.Bits.{is_set}
use Rattle.nofs_bits.proofs.Truths.{is_bit, within_places}
use Rattle.nofs_bits.proofs.Bits.get.Goals as goal

pub index-requires : goal.index-requires
index-requires c =
    let within = within_places c.self.inside.words.items c.self.inside.places c.args.at _ c.self.view_is c.requires in
    omega (arith, c.self.invariant.0)

pub returns : goal.returns
returns c =
    let words = c.self.inside.words.items in
    let at = c.args.at in
    let within = within_places words c.self.inside.places at _ c.self.view_is c.requires in
    let word = c.index.ensures ∙ get_or_default_zero words _ _ (omega (arith, c.self.invariant.0)) in
    c.has_bit.ensures
    ∙ ap (λ w. eqb (bit_at w (at % 64)) 1) word
    ∙ sym (is_bit words c.self.inside.places at within)
    ∙ ap (λ bits. is_set bits at) c.self.view_is
