-- The bits of one word.
use Rattle.std.proofs.Common.{◌≡◌, ℕ, ◌+◌, ◌-◌, ◌/◌, ◌%◌, ◌^◌, ◌<◌, ◌≤◌, sym, ap, ◌∙◌, inl, inr, arith, w64}
use Rattle.std.proofs.lemmas.Bool.{cases_lt}
use Rattle.std.proofs.lemmas.Nat.{shr-shr}
use Rattle.std.proofs.lemmas.Nat.Bits.{bit_at-zero, bit_at_above, bit_at-trailing_zeros}
use Rattle.std.specs.Int.{bit_at, trailing_zeros}

-- a bit of a word that was shifted down
shifted : (word first i : ℕ) → first ≤ i → bit_at word i ≡ bit_at (word / 2 ^ first) (i - first)
shifted word first i low =
    let place : first + (i - first) ≡ i = omega arith in
    ap (bit_at word) (sym place) ∙ sym (ap (λ x. x % 2) (shr-shr word first (i - first)))

-- nothing is left of a word from a bit on
pub none_from : (word first i : ℕ) → word / 2 ^ first ≡ 0 → first ≤ i → bit_at word i ≡ 0
none_from word first i none low = shifted word first i low ∙ ap (λ x. bit_at x (i - first)) none
    ∙ bit_at-zero (i - first)

-- the lowest bit of a word from a bit on
pub record IsLowest (word first bit : ℕ) : Type 0 where
  pub low : first ≤ bit
  pub within : bit < 64
  pub there : bit_at word bit ≡ 1
  pub least : (i : ℕ) → first ≤ i → i < bit → bit_at word i ≡ 0

pub lowest_from : (word first : ℕ) → word < 2 ^ 64 → 0 < word / 2 ^ first → word / 2 ^ first < 2 ^ 64
    → IsLowest word first (first + trailing_zeros w64 (word / 2 ^ first))
lowest_from word first small some fits =
    let rest : ℕ = word / 2 ^ first in
    let found = bit_at-trailing_zeros w64 rest some fits in
    let zeros : ℕ = trailing_zeros w64 rest in
    let back : first + zeros - first ≡ zeros = omega arith in
    let there : bit_at word (first + zeros) ≡ 1 = shifted word first (first + zeros) (omega arith)
    ∙ ap (bit_at rest) back ∙ found.1 in
    record {
      low = omega arith;
      within = elim (cases_lt (first + zeros) 64) [
        | inl below ↦ below
        | inr above ↦ absurd (let none = bit_at_above word 64 (first + zeros) small above in omega arith)
      ];
      there = there;
      least = λ i low below. shifted word first i low ∙ found.2 (i - first) (omega arith);
    }
