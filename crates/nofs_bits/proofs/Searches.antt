-- What a search by words has seen of the places.
use Rattle.std.proofs.Common.{◌≡◌, ℕ, ◌+◌, ◌-◌, ◌*◌, ◌/◌, ◌%◌, ◌<◌, ◌≤◌, Bool, false, eqb, List, length, get_or, ap}
use Rattle.std.proofs.Common.{◌∙◌, sym, inl, inr, arith}
use Rattle.std.proofs.lemmas.Bool.{cases_lt}
use Rattle.std.proofs.lemmas.List.{get_or_past}
use Rattle.std.specs.Int.{bit_at}
use Rattle.nofs_bits.specs.Bits.{NoneInWords, NoneSet, bit_of, is_set, truths}
use Rattle.nofs_bits.proofs.Truths.{is_set-truths, length-truths}

-- a place of words is a bit of one of them
pub bit_here : (words : List ℕ) (index bit : ℕ)
    → bit < 64 → bit_of words (index * 64 + bit) ≡ eqb (bit_at (get_or words index 0) bit) 1
unfolding bit_of
bit_here words index bit small =
    let word : (index * 64 + bit) / 64 ≡ index = omega arith in
    let rest : (index * 64 + bit) % 64 ≡ bit = omega arith in
    ap (λ w. eqb (bit_at (get_or words w 0) ((index * 64 + bit) % 64)) 1) word
    ∙ ap (λ r. eqb (bit_at (get_or words index 0) r) 1) rest

-- a word has no bit that is set from one up to another
pub none_more : (words : List ℕ) (from index first end : ℕ) → NoneInWords words from (index * 64 + first) → end ≤ 64
    → ((i : ℕ) → first ≤ i → i < end → bit_at (get_or words index 0) i ≡ 0) → NoneInWords words from (index * 64 + end)
none_more words from index first end seen small clear at low below =
    elim (cases_lt at (index * 64 + first)) [
      | inl before ↦ seen at low before
      | inr here ↦
          let bit : ℕ = at - index * 64 in
          let place : index * 64 + bit ≡ at = omega arith in
          ap (bit_of words) (sym place)
          ∙ bit_here words index bit (omega arith)
          ∙ ap (λ b. eqb b 1) (clear bit (omega arith) (omega arith))
    ]

-- places of a map that are clear in its words
pub none_of_map : (words : List ℕ) (places from end : ℕ) (now : List Bool)
    → truths words places ≡ now → NoneInWords words from end → NoneSet now from end
none_of_map words places from end now is none at low below =
    ap (λ bits. is_set bits at) (sym is)
    ∙ elim (cases_lt at places) [
      | inl within ↦ is_set-truths words places at within ∙ none at low below
      | inr past ↦ get_or_past (truths words places) at false (omega (arith, length-truths words places))
    ]

-- no place of a map is set that is clear in its words up to its end
pub none_to_end : (words : List ℕ) (places from end : ℕ) (now : List Bool)
    → truths words places ≡ now → NoneInWords words from end → places ≤ end
    → NoneSet now from (length now)
none_to_end words places from end now is none long at low below =
    none_of_map words places from end now is none at low (omega (arith, ap length is, length-truths words places))
