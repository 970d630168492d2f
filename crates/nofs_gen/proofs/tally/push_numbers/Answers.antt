use Rattle.std.proofs.Common.{◌≡◌, ◌∙◌, ◌++◌, ℕ, List, codes, refl, sym, ap, append_assoc}
use Rattle.std.specs.Fmt.{decimal}
use Rattle.nofs_gen.proofs.tally.push_numbers.Goals as goal

-- words and a number behind a text
more : (new old text words digits : List ℕ) → new ≡ old ++ (words ++ digits) → old ≡ text
    → new ≡ text ++ words ++ digits
more new old text words digits pushed is =
    pushed ∙ (ap (λ l. l ++ (words ++ digits)) is ∙ sym (append_assoc text words digits))

pub returns : goal.returns
returns c =
    let old = c.args.text.now.items in
    let n = c.args.told.now in
    let one = more _ old old (codes ", refused ") (decimal n.refused) c.in_ok-push_number.ensures refl in
    let two = more _ _ _ (codes ", bytes ") (decimal n.bytes) c.in_ok-push_number-2.ensures one in
    let three = more _ _ _ (codes ", sum ") (decimal n.sum) c.in_ok-push_number-3.ensures two in
    more _ _ _ (codes ", wrong ") (decimal n.wrong) c.in_ok-push_number-4.ensures three
