-- Maps of bits: those of a new mount, how one bit changes, and what true and false do beside another bit.
use Rattle.std.proofs.Common.{◌≡◌, ◌≢◌, ℕ, ◌+◌, ◌<◌, ◌≤◌, inl, inr, Bool, true, false, ◌&&◌, List, length, replicate}
use Rattle.std.proofs.Common.{leb, ltb, refl, sym, ◌∙◌, subst, arith}
use Rattle.std.specs.Prelude.{slice_set}
use Rattle.std.proofs.lemmas.Bool.{cases_lt, cases_eq}
use Rattle.std.proofs.lemmas.Bool.Decides.{nat_tests}
use Rattle.std.proofs.lemmas.List.{get_or-set_same, get_or-set_other, get_or-replicate, get_or_past, length-replicate}
use Rattle.std.proofs.lemmas.List.{length-set}
use Rattle.nofs_bits.specs.Bits.{is_set}
use Rattle.nofs_state.specs.Books.Maps.{MapsAll, SetsFrom}

pub set-none : (n k : ℕ) → is_set (replicate n false) k ≡ false
set-none n k = elim (cases_lt k n) [
  | inl low ↦ get_or-replicate n k false false low
  | inr high ↦ get_or_past (replicate n false) k false (let e = length-replicate n false in omega (arith, e, high))
]

pub set-here : (bits : List Bool) (k : ℕ) (v : Bool) → k < length bits → is_set (slice_set bits k v) k ≡ v
set-here bits k v low = get_or-set_same bits k v false low

pub set-other : (bits : List Bool) (k n : ℕ) (v : Bool) → n ≢ k → is_set (slice_set bits k v) n ≡ is_set bits n
set-other bits k n v ne = get_or-set_other bits k n v false ne

pub set-length : (bits : List Bool) (k : ℕ) (v : Bool) → length (slice_set bits k v) ≡ length bits
set-length bits k v = length-set bits k v

between-none : (from n : ℕ) → (leb from n && ltb n from) ≡ false
between-none from n = grind (arith, nat_tests)

between-here : (from place : ℕ) → from ≤ place → (leb from place && ltb place (place + 1)) ≡ true
between-here from place low = grind (arith, nat_tests)

between-other : (from place n : ℕ) → n ≢ place → (leb from n && ltb n (place + 1)) ≡ (leb from n && ltb n place)
between-other from place n ne = grind (arith, nat_tests)

between-all : (from place n : ℕ) → n < place → (leb from n && ltb n place) ≡ leb from n
between-all from place n low = grind (arith, nat_tests)

pub sets-begins : (places from : ℕ) → SetsFrom places from from (replicate places false)
sets-begins places from =
    record { len = length-replicate places false; each = λ n low. set-none places n ∙ sym (between-none from n) }

pub sets-goes : (places from place : ℕ) (bits : List Bool) → SetsFrom places from place bits
    → from ≤ place → place < places
    → SetsFrom places from (place + 1) (slice_set bits place true)
sets-goes places from place bits s low high = record {
  len = set-length bits place true ∙ s.len;
  each = λ n lt. elim (cases_eq n place) [
    | inl here ↦
        let at : place < length bits = let e = s.len in omega (arith, e, high) in
        subst (λ (q : ℕ). is_set (slice_set bits place true) q ≡ (leb from q && ltb q (place + 1))) (sym here)
        (set-here bits place true at ∙ sym (between-here from place low))
    | inr other ↦ set-other bits place n true other ∙ s.each n lt ∙ sym (between-other from place n other)
  ];
}

pub sets-ends : (places from place : ℕ) (bits : List Bool) → SetsFrom places from place bits
    → places ≤ place → MapsAll places from bits
sets-ends places from place bits s all =
    record { len = s.len; each = λ n low. s.each n low ∙ between-all from place n (omega (arith, low, all)) }

pub and-true : (b : Bool) → b ≡ (b && true)
and-true true = refl
and-true false = refl

pub and-false : (b : Bool) → false ≡ (b && false)
and-false true = refl
and-false false = refl
