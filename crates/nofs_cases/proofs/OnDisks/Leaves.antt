-- A leaf of which only the first pointer leads to a block.
use Rattle.std.proofs.Common.{◌≡◌, ◌≢◌, ℕ, zero, suc, ◌+◌, ◌*◌, ◌≤◌, inl, inr, true, List, ◌++◌, length, refl, arith}
use Rattle.std.proofs.lemmas.Bool.{cases_lt}
use Rattle.std.proofs.lemmas.List.{drop_all}
use Rattle.nofs_disk.specs.Number.{number_at}
use Rattle.nofs_disk.specs.Pointer.{is_null, pointer_in}
use Rattle.nofs_ptrs.specs.Cells.{pointer_at}
use Rattle.nofs_cases.specs.Disks.Images.{z, pointer_bytes}
use Rattle.nofs_cases.proofs.OnDisks.Numbers.{all_below, each-below}

-- its bytes, with the stamp 2 ^ 40 + m in its first pointer
abbrev pub leaf_bytes : ℕ → List ℕ
leaf_bytes m = pointer_bytes 2 m ++ z 1008

others-empty : (m : ℕ) → all_below (λ n. is_null (pointer_at (leaf_bytes m) (suc n))) 63 ≡ true
unfolding all_below pointer_at pointer_in number_at
others-empty m = refl

-- a cell has no pointer behind its 64
past-end : (xs : List ℕ) (n : ℕ) → length xs ≡ 1024 → 64 ≤ n → is_null (pointer_at xs n) ≡ true
unfolding pointer_at pointer_in number_at
past-end xs n len le =
    rw (drop_all (16 * n) xs (omega (arith, len, le)), drop_all (16 * n + 8) xs (omega (arith, len, le))) refl

pub other-pointer : (m n : ℕ) → n ≢ 0 → is_null (pointer_at (leaf_bytes m) n) ≡ true
other-pointer m zero ne = absurd (ne refl)
other-pointer m (suc n) ne = elim (cases_lt n 63) [
  | inl lt ↦ each-below (λ n. is_null (pointer_at (leaf_bytes m) (suc n))) 63 n (others-empty m) lt
  | inr ge ↦ past-end (leaf_bytes m) (suc n) refl (omega (arith, ge))
]
