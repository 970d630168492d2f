-- As many free blocks can be chosen as are counted.
use Rattle.std.proofs.Common.{◌≡◌, ℕ, zero, suc, ◌+◌, ◌<◌, ◌≤◌, Bool, true, false, cond, List, [], ◌∷◌, length, refl}
use Rattle.std.proofs.Common.{arith}
use Rattle.nofs_history.specs.Search.{count_below}

-- m of the numbers below n that pass, the greatest first
pub pick : (ℕ → Bool) → ℕ → ℕ → List ℕ
pick test zero m = []
pick test (suc n) zero = []
pick test (suc n) (suc m) = cond (test n) (n ∷ pick test n m) (pick test n (suc m))

-- each passes, and is below the one before
abbrev pub Falls : (ℕ → Bool) → ℕ → List ℕ → Type 0
Falls test b [] = Unit {0}
Falls test b (x ∷ xs) = (x < b) × ((test x ≡ true) × Falls test x xs)

falls-weaken : (test : ℕ → Bool) (a b : ℕ) (xs : List ℕ) → a ≤ b → Falls test a xs → Falls test b xs
falls-weaken test a b [] le f = tt
falls-weaken test a b (x ∷ xs) le f = let l = f.0 in (omega (arith, l, le), f.1)

pub pick-falls : (test : ℕ → Bool) (n m : ℕ) → Falls test n (pick test n m)
unfolding pick
pick-falls test zero m = tt
pick-falls test (suc n) zero = tt
pick-falls test (suc n) (suc m) = go (test n) refl (pick-falls test n m) (pick-falls test n (suc m))
  where
    go : (b : Bool) → test n ≡ b → Falls test n (pick test n m) → Falls test n (pick test n (suc m))
        → Falls test (suc n) (cond b (n ∷ pick test n m) (pick test n (suc m)))
    go true e with_n without = (omega arith, (e, with_n))
    go false e with_n without = falls-weaken test n (suc n) (pick test n (suc m)) (omega arith) without

pub pick-length : (test : ℕ → Bool) (n m : ℕ) → m ≤ count_below test n → length (pick test n m) ≡ m
unfolding pick count_below
pick-length test zero m le = omega (arith, le)
pick-length test (suc n) zero le = refl
pick-length test (suc n) (suc m) le = go (test n) le (pick-length test n m) (pick-length test n (suc m))
  where
    go : (b : Bool) → suc m ≤ cond b (1 + count_below test n) (count_below test n)
        → (m ≤ count_below test n → length (pick test n m) ≡ m)
        → (suc m ≤ count_below test n → length (pick test n (suc m)) ≡ suc m)
        → length (cond b (n ∷ pick test n m) (pick test n (suc m))) ≡ suc m
    go true le with_n without = let ih = with_n (omega (arith, le)) in omega (arith, ih)
    go false le with_n without = without le
