-- The least place that is set, before and after a change.
use Rattle.std.proofs.Common.{◌≡◌, ◌≢◌, ℕ, ◌+◌, ◌<◌, ◌≤◌, Bool, true, false, List, length, replicate, arith, ap, sym}
use Rattle.std.proofs.Common.{◌∙◌, inl, inr}
use Rattle.std.proofs.lemmas.Bool.{cases_eq, cases_lt}
use Rattle.std.proofs.lemmas.List.{get_or-replicate, get_or-set_other, get_or-set_same, length-replicate, length-set}
use Rattle.std.specs.Prelude.{slice_set}
use Rattle.nofs_bits.specs.Bits.{IsFirst, NoneSet, is_set}

-- a place that was not changed
other_place : (bits : List Bool) (at p : ℕ) (value : Bool) → p ≢ at → is_set (slice_set bits at value) p ≡ is_set bits p
other_place bits at p value apart = get_or-set_other bits at p value false apart

same_place : (bits : List Bool) (at : ℕ) (value : Bool) → at < length bits → is_set (slice_set bits at value) at ≡ value
same_place bits at value within = get_or-set_same bits at value false within

-- where no place is set, it is the end
pub first_none : (places : ℕ) → IsFirst (replicate places false) places
first_none places = record {
  none = λ at low below. get_or-replicate places at false false below;
  set = λ inside. absurd (omega (arith, inside, length-replicate places false));
}

-- a place below the least was set
pub first_lower : (bits : List Bool) (first at : ℕ) → at < length bits → at < first → IsFirst bits first
    → IsFirst (slice_set bits at true) at
first_lower bits first at within lower is = record {
  none = λ p low below. other_place bits at p true (λ e. omega (arith, e, below)) ∙ is.none p low (omega arith);
  set = λ inside. same_place bits at true within;
}

-- a place at the least or above it was set
pub first_upper : (bits : List Bool) (first at : ℕ) → at < length bits → first ≤ at → IsFirst bits first
    → IsFirst (slice_set bits at true) first
first_upper bits first at within upper is = record {
  none = λ p low below. other_place bits at p true (λ e. omega (arith, e, below, upper)) ∙ is.none p low below;
  set = λ inside. elim (cases_eq first at) [
    | inl same ↦ ap (is_set (slice_set bits at true)) same ∙ same_place bits at true within
    | inr apart ↦ other_place bits at first true apart ∙ is.set (omega arith)
  ];
}

-- another place than the least was cleared
pub first_stays : (bits : List Bool) (first at : ℕ) → at < length bits → at ≢ first → IsFirst bits first
    → IsFirst (slice_set bits at false) first
first_stays bits first at within apart is = record {
  none = λ p low below. elim (cases_eq p at) [
    | inl same ↦ ap (is_set (slice_set bits at false)) same ∙ same_place bits at false within
    | inr other ↦ other_place bits at p false other ∙ is.none p low below
  ];
  set = λ inside. other_place bits at first false (λ e. apart (sym e))
      ∙ is.set (omega (arith, inside, length-set bits at false));
}

-- the least was cleared, and none behind it is set up to another
pub first_moves : (bits : List Bool) (at next : ℕ) → at < length bits → IsFirst bits at
    → NoneSet (slice_set bits at false) (at + 1) next
    → (next < length bits → is_set (slice_set bits at false) next ≡ true)
    → IsFirst (slice_set bits at false) next
first_moves bits at next within is none found = record {
  none = λ p low below. elim (cases_eq p at) [
    | inl same ↦ ap (is_set (slice_set bits at false)) same ∙ same_place bits at false within
    | inr other ↦ elim (cases_lt p at) [
      | inl before ↦ other_place bits at p false other ∙ is.none p low before
      | inr behind ↦ none p (omega (arith, behind, other_le p at other behind)) below
    ]
  ];
  set = λ inside. found (omega (arith, inside, length-set bits at false));
}
  where
    other_le : (p at : ℕ) → p ≢ at → at ≤ p → at + 1 ≤ p
    other_le p at other le = elim (cases_lt at p)
        [ inl strictly ↦ omega (arith, strictly) | inr back ↦ absurd (other (omega (arith, le, back))) ]
