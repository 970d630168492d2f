-- A cell of zeros has no pointer.
use Rattle.std.proofs.Common.{◌≡◌, ℕ, zero, suc, ◌+◌, ◌*◌, ◌≤◌, true, inl, inr, List, length, drop, replicate, refl, ap}
use Rattle.std.proofs.Common.{◌∙◌, arith}
use Rattle.std.specs.Prelude.{slice_index}
use Rattle.std.proofs.lemmas.Bool.{cases_lt}
use Rattle.std.proofs.lemmas.List.{drop-replicate, get_or-replicate, get_or_past, length-drop, length-replicate}
use Rattle.byteorder.specs.Endian.{little_from, little_number}
use Rattle.nofs_disk.specs.Number.{number_at, zeros}
use Rattle.nofs_disk.specs.Pointer.{pointer_in, is_null}
use Rattle.nofs_ptrs.specs.Cells.{pointer_at}

zero-at : (m k : ℕ) → slice_index (replicate m 0) k ≡ 0
zero-at m k = elim (cases_lt k m) [
  | inl low ↦ get_or-replicate m k 0 0 low
  | inr high ↦ get_or_past (replicate m 0) k 0 (let z : ℕ = 0 in let e = length-replicate m z in omega (arith, e, high))
]

little-zero : (i n : ℕ) (xs : List ℕ) → ((k : ℕ) → slice_index xs k ≡ 0) → little_from i n xs ≡ 0
little-zero i zero xs each = refl
little-zero i (suc n) xs each = rw (each i, little-zero (suc i) n xs each) refl

number-zero : (n at m : ℕ) → number_at n at (zeros m) ≡ 0
unfolding number_at zeros
number-zero n at m = ap (little_number n) (drop-replicate at m 0) ∙ little-zero 0 n _ (λ k. zero-at _ k)

pub zeros-null : (m j : ℕ) → is_null (pointer_at (zeros m) j) ≡ true
unfolding pointer_at pointer_in
zeros-null m j = rw (number-zero 8 (16 * j) m, number-zero 8 (16 * j + 8) m) refl

-- nor do the bytes past the end
past-zero : (n at : ℕ) (xs : List ℕ) → length xs ≤ at → number_at n at xs ≡ 0
unfolding number_at
past-zero n at xs past = little-zero 0 n (drop at xs)
    (λ k. get_or_past (drop at xs) k 0 (let l = length-drop at xs in omega (arith, l, past)))

pub past-null : (xs : List ℕ) (j : ℕ) → length xs ≡ 1024 → 64 ≤ j → is_null (pointer_at xs j) ≡ true
unfolding pointer_at pointer_in
past-null xs j long far =
    rw (past-zero 8 (16 * j) xs (omega (arith, long, far)), past-zero 8 (16 * j + 8) xs (omega (arith, long, far))) refl

pub past-same : (xs ys : List ℕ) (j : ℕ)
    → length xs ≡ 1024 → length ys ≡ 1024 → 64 ≤ j → pointer_at xs j ≡ pointer_at ys j
unfolding pointer_at pointer_in
past-same xs ys j long also far = rw (
  past-zero 8 (16 * j) xs (omega (arith, long, far)),
  past-zero 8 (16 * j + 8) xs (omega (arith, long, far)),
  past-zero 8
      (16 * j) ys (omega (arith, also, far)),
  past-zero 8 (16 * j + 8) ys (omega (arith, also, far)),
) refl
