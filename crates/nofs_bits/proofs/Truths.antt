-- The truth values that lie in words.
use Rattle.std.proofs.Common.{◌≡◌, ◌≢◌, ℕ, zero, ◌+◌, ◌-◌, ◌/◌, ◌%◌, ◌<◌, ◌≤◌, Bool, true, false, cond, eqb, List}
use Rattle.std.proofs.Common.{length, get_or, replicate, mul-zero, refl}
use Rattle.std.proofs.Common.{subst, sym, ap, ◌∙◌, inl, inr, arith}
use Rattle.std.proofs.lemmas.Bool.{cases_eq, cases_lt}
use Rattle.std.proofs.lemmas.Grind.{get_or-set_at}
use Rattle.std.proofs.Math.ListN.{get_or-eq_default}
use Rattle.std.proofs.lemmas.List.{get_or-replicate, get_or-set_other, get_or-set_same, length-replicate, length-set}
use Rattle.std.proofs.lemmas.List.FromFn.{fill_by_all, get_or-map-range_with_len, length-map-range_with_len}
use Rattle.std.proofs.lemmas.List.Folds.{sum_by-replicate}
use Rattle.std.proofs.lemmas.List.Sums.{get_or-le-sum_by, sum_by-set, count_by-le-length}
use Rattle.std.proofs.lemmas.Nat.Bits.{bit_at-zero}
use Rattle.std.specs.Prelude.{slice_set}
use Rattle.std.specs.Int.{bit_at}
use mir.Val.{bool_byte}
use Rattle.nofs_bits.specs.Bits.{bit_of, count_set, is_set, truths}

pub length-truths : (words : List ℕ) (places : ℕ) → length (truths words places) ≡ places
unfolding truths
length-truths words places = length-map-range_with_len (bit_of words) 0 places

-- a place of a map is its bit
pub is_set-truths : (words : List ℕ) (places at : ℕ) → at < places
    → is_set (truths words places) at ≡ bit_of words at
unfolding truths
is_set-truths words places at within =
    get_or-map-range_with_len (bit_of words) 0 places at at false within (omega arith)

-- a place of a map is a place of its words
pub within_places : (words : List ℕ) (places at : ℕ) (now : List Bool)
    → truths words places ≡ now → at < length now → at < places
within_places words places at now is below = omega (arith, ap length is, length-truths words places)

pub in_map : (words : List ℕ) (places at : ℕ) (now : List Bool)
    → truths words places ≡ now → at < places → at < length now
in_map words places at now is below = omega (arith, ap length is, length-truths words places)

-- a place of a list is its bit
abbrev pub IsBit : List ℕ → List Bool → ℕ → Type 0
IsBit words bits at = is_set bits at ≡ eqb (bit_at (get_or words (at / 64) 0) (at % 64)) 1

pub is_bit : (words : List ℕ) (places at : ℕ) → at < places → IsBit words (truths words places) at
unfolding bit_of
is_bit words places at within = is_set-truths words places at within

-- a list is a map's truth values where each place is its bit
truths_from : (words : List ℕ) (places : ℕ) (bits : List Bool) → length bits ≡ places
    → ((at : ℕ) → at < places → IsBit words bits at) → bits ≡ truths words places
unfolding truths bit_of
truths_from words places bits long each = fill_by_all (bit_of words) bits places false long each

-- ---- no place is set
zero_word : (count index : ℕ) → get_or (replicate {A = ℕ} count 0) index 0 ≡ zero
zero_word count index =
    elim (cases_lt index count) [
      | inl below ↦ get_or-replicate count index 0 0 below
      | inr above ↦ get_or-eq_default (replicate {A = ℕ} count 0) 0 (omega (arith, length-replicate {A = ℕ} count 0))
    ]

pub truths_clear : (count places : ℕ) → replicate places false ≡ truths (replicate count 0) places
truths_clear count places =
    truths_from (replicate count 0) places (replicate places false) (length-replicate places false)
    (λ at within.
    get_or-replicate places at false false within
    ∙ sym (ap (λ word. eqb (bit_at word (at % 64)) 1) (zero_word count (at / 64))
    ∙ ap (λ bit. eqb bit 1) (bit_at-zero (at % 64))))

pub count_clear : (places : ℕ) → count_set (replicate places false) ≡ 0
count_clear places = sum_by-replicate (λ bit. cond bit 1 0) places false ∙ mul-zero places

-- ---- one place is changed
is_one : (value : Bool) → eqb (cond value 1 0) 1 ≡ value
is_one true = refl
is_one false = refl

module _ (words : List ℕ) (places at word : ℕ) (value : Bool) (within : at < places) (inside : at / 64 < length words)
    (there : bit_at word (at % 64) ≡ cond value 1 0)
    (others : (i : ℕ) → i < 64 → i ≢ at % 64 → bit_at word i ≡ bit_at (get_or words (at / 64) 0) i) where
  changed : IsBit (slice_set words (at / 64) word) (slice_set (truths words places) at value) at
  changed =
      let now = get_or-set_same words (at / 64) word 0 inside in
      get_or-set_same (truths words places) at value false (omega (arith, length-truths words places))
      ∙ sym (ap (λ w. eqb (bit_at w (at % 64)) 1) now ∙ ap (λ bit. eqb bit 1) there ∙ is_one value)

  same_bit : (p : ℕ) → p ≢ at
      → bit_at (get_or (slice_set words (at / 64) word) (p / 64) 0) (p % 64) ≡ bit_at (get_or words (p / 64) 0) (p % 64)
  same_bit p other =
      elim (cases_eq (p / 64) (at / 64)) [
        | inl same ↦
            let bit : p % 64 ≢ at % 64 = λ e. other (omega arith) in
            let now = get_or-set_at words (at / 64) (p / 64) word 0 same inside in
            ap (λ w. bit_at w (p % 64)) now ∙ others (p % 64) (omega arith) bit
            ∙ ap (λ index. bit_at (get_or words index 0) (p % 64)) (sym same)
        | inr apart ↦ ap (λ w. bit_at w (p % 64)) (get_or-set_other words (at / 64) (p / 64) word 0 apart)
      ]

  unchanged : (p : ℕ)
      → p < places → p ≢ at → IsBit (slice_set words (at / 64) word) (slice_set (truths words places) at value) p
  unchanged p below other =
      get_or-set_other (truths words places) at p value false other
      ∙ is_bit words places p below
      ∙ sym (ap (λ bit. eqb bit 1) (same_bit p other))

  pub truths_set : slice_set (truths words places) at value ≡ truths (slice_set words (at / 64) word) places
  truths_set =
      truths_from (slice_set words (at / 64) word) places (slice_set (truths words places) at value)
      (length-set (truths words places) at value ∙ length-truths words places)
      (λ p below. elim (cases_eq p at) [
        | inl same ↦
            subst (IsBit (slice_set words (at / 64) word) (slice_set (truths words places) at value)) (sym same) changed
        | inr other ↦ unchanged p below other
      ])

-- the count of those that are set goes with the place that is changed
byte_is : (value : Bool) → bool_byte value ≡ cond value 1 0
byte_is true = refl
byte_is false = refl

pub count_changed : (bits : List Bool) (at count : ℕ) (was value : Bool) → at < length bits → was ≡ is_set bits at
    → count ≡ count_set bits
    → (count - bool_byte was + bool_byte value ≡ count_set (slice_set bits at value))
    × (bool_byte was ≤ count)
    × (count_set (slice_set bits at value) ≤ length bits)
count_changed bits at count was value within is kept =
    let before : bool_byte was ≡ cond (is_set bits at) 1 0 = byte_is was ∙ ap (λ bit. cond bit 1 0) is in
    let after = byte_is value in
    let moved = sum_by-set (λ bit. cond bit 1 0) bits at value false within in
    let among = get_or-le-sum_by (λ bit. cond bit 1 0) bits at false within in
    let most = count_by-le-length (λ bit. bit) (slice_set bits at value) in (
      omega (arith, before, after, moved, among),
      omega (arith, before, among),
      omega (arith, most, length-set bits at value),
    )
