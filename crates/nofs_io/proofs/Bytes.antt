-- Lemmas on what moves and what is left.
use Rattle.std.proofs.Common.{◌≡◌, ℕ, ◌+◌, ◌-◌, ◌<◌, ◌≤◌, min, List, [], ◌++◌, length, take, drop, sym, ap, ◌∙◌, arith}
use Rattle.std.proofs.Common.{length-append, take-append-drop}
use Rattle.std.proofs.Common.{drop_of_length-le}
use Rattle.std.proofs.Math.Seq.{take-add}
use Rattle.std.proofs.lemmas.List.{take_rest, take_at, drop-drop}

-- a piece of n bytes in front of the rest is what was taken
pub moved_front : (bytes part rest : List ℕ) (at n : ℕ) → part ≡ take n (drop at bytes) → length part ≡ n
    → drop at bytes ≡ take n (part ++ rest) ++ drop (at + n) bytes
moved_front bytes part rest at n is long =
    sym (take-append-drop n (drop at bytes))
    ∙ ap (λ l. l ++ drop n (drop at bytes)) (sym is ∙ sym (take_at part rest n long))
    ∙ ap (λ l. take n (part ++ rest) ++ l) (drop-drop n at bytes)

-- what stands at `at`, and n more
pub taken_more : (at n : ℕ) (text : List ℕ) → take at text
    ++ take n (take (length text - at) (drop at text)) ≡ take (at + n) text
taken_more at n text = ap (λ l. take at text ++ take n l) (take_rest text at) ∙ sym (take-add at n text)

-- the length of two parts, of which the second fits into the room that the first leaves
pub length_both : (front last : List ℕ) (room most : ℕ) → length front + room ≤ most → length last ≤ room
    → length (front ++ last) ≤ most
length_both front last room most fits short = omega (arith, length-append front last)

-- an empty piece comes only where nothing is left
pub ended : (bytes : List ℕ) (at n most room : ℕ) → n ≡ min most (length bytes - at)
    → 0 < most → n ≡ 0 → drop (at + n) bytes ≡ []
ended bytes at n most room is some none = drop_of_length-le bytes (omega arith)
