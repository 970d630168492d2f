use Rattle.std.proofs.Common.{eqb, ap, ◌∙◌, arith, refl}
use Rattle.nofs_bits.proofs.Searches.{bit_here, none_more}
use Rattle.nofs_bits.proofs.next_in_words.Goals as goal

pub returns-in-Some-clause-found : goal.returns-in-Some-clause-found
returns-in-Some-clause-found c =
    let found = c.in-Some.ensures.found in (
      omega (arith, c.loop-index.invariant.1, found.0),
      bit_here c.args.words.now c.loop-index.index c.in-Some.bit found.1 ∙ ap (λ b. eqb b 1) found.2,
    )

pub returns-in-Some-clause-least : goal.returns-in-Some-clause-least
returns-in-Some-clause-least c =
    none_more c.args.words.now c.args.from c.loop-index.index c.loop-index.first c.in-Some.bit c.loop-index.invariant.2
    (omega (arith, c.in-Some.ensures.found.1)) c.in-Some.ensures.least

pub loop-index-preserved : goal.loop-index-preserved
loop-index-preserved c =
    let seen = none_more c.args.words.now c.args.from c.loop-index.index c.loop-index.first 64 c.loop-index.invariant.2
    (omega arith) (c.in-None.ensures.none refl) in (
      omega arith,
      omega (arith, c.loop-index.invariant.0, c.loop-index.invariant.1),
      λ at low below. seen at low (omega arith),
    )
