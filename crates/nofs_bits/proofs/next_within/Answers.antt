use Rattle.std.proofs.Common.{◌∙◌, arith, refl}
use Rattle.nofs_bits.specs.Bits.{truths}
use Rattle.nofs_bits.proofs.Searches.{none_of_map}
use Rattle.nofs_bits.proofs.Truths.{is_set-truths}
use Rattle.nofs_bits.proofs.next_within.Goals as goal

pub returns-in-Some-clause-found : goal.returns-in-Some-clause-found
returns-in-Some-clause-found c =
    let found = c.in-Some.ensures.found in (
      found.0,
      c.if-at-places.true,
      is_set-truths c.args.words.now c.args.places c.in-Some.at c.if-at-places.true ∙ found.1,
    )

pub returns-in-Some-clause-least : goal.returns-in-Some-clause-least
returns-in-Some-clause-least c =
    none_of_map c.args.words.now c.args.places c.args.from c.in-Some.at
    (truths c.args.words.now c.args.places) refl c.in-Some.ensures.least

pub returns-in_default-clause-none : goal.returns-in_default-clause-none
returns-in_default-clause-none c none at low below =
    none_of_map c.args.words.now c.args.places c.args.from c.in-Some.at
    (truths c.args.words.now c.args.places) refl c.in-Some.ensures.least at low
    (omega arith)

pub returns-in_default-2-clause-none : goal.returns-in_default-2-clause-none
returns-in_default-2-clause-none c none at low below =
    none_of_map c.args.words.now c.args.places c.args.from _ (truths c.args.words.now c.args.places) refl
    (c.in_default.ensures.none refl) at low (omega arith)
