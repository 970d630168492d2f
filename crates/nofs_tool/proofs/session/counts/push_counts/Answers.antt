use Rattle.std.proofs.Common.{◌≡◌, ◌∙◌, ◌++◌, ℕ, List, codes, ap, append_assoc}
use Rattle.std.specs.Fmt.{decimal}
use Rattle.nofs_tool.proofs.session.counts.push_counts.Goals as goal

-- three parts behind a text, one after the other
three-pushed : (text one two three a b c : List ℕ) → one ≡ text ++ a → two ≡ one ++ b → three ≡ two ++ c
    → three ≡ text ++ (a ++ b ++ c)
three-pushed text one two three a b c first second third =
    third ∙ (ap (λ l. l ++ c) (second ∙ (ap (λ l. l ++ b) first ∙ append_assoc text a b))
    ∙ append_assoc text (a ++ b) c)

pub returns : goal.returns
returns c =
    let n = c.args.counts in
    three-pushed c.args.text.now.items _ _ _ (c.args.kind.now ++ decimal n.0) (codes " free " ++ decimal n.1)
    (codes " unchecked " ++ decimal n.2) c.in_ok-push_number.ensures c.in_ok-push_number-2.ensures
    c.in_ok-push_number-3.ensures
