-- What holds of numbers, shown number by number.
use Rattle.std.proofs.Common.{◌≡◌, ℕ, zero, suc, ◌<◌, inl, inr, Bool, true, ◌&&◌, [], ap, ◌∙◌, arith, Contains}
use Rattle.std.proofs.lemmas.Bool.{cases_eq}
use Rattle.nofs_model.proofs.OnSlots.Find.{and-both}

-- the first four, and those behind them
pub each-number : (P : ℕ → Type 0) → P 0 → P 1 → P 2 → P 3 → ((n : ℕ) → P (suc (suc (suc (suc n))))) → (n : ℕ) → P n
each-number P a b c d rest zero = a
each-number P a b c d rest (suc zero) = b
each-number P a b c d rest (suc (suc zero)) = c
each-number P a b c d rest (suc (suc (suc zero))) = d
each-number P a b c d rest (suc (suc (suc (suc n)))) = rest n

-- one of three things, by numbers from 1 on, and another one elsewhere
abbrev pub one_of : {A : Type 0} → A → A → A → A → ℕ → A
one_of none a b c zero = none
one_of none a b c (suc zero) = a
one_of none a b c (suc (suc zero)) = b
one_of none a b c (suc (suc (suc zero))) = c
one_of none a b c (suc (suc (suc (suc n)))) = none

-- a test of each number below a bound
unfoldable pub all_below : (ℕ → Bool) → ℕ → Bool
all_below test zero = true
all_below test (suc n) = test n && all_below test n

pub each-below : (test : ℕ → Bool) (n k : ℕ) → all_below test n ≡ true → k < n → test k ≡ true
unfolding all_below
each-below test zero k e lt = absurd (omega (arith, lt))
each-below test (suc n) k e lt = elim (cases_eq k n) [
  | inl same ↦ ap test same ∙ (and-both (test n) (all_below test n) e).0
  | inr ne ↦ each-below test n k (and-both (test n) (all_below test n) e).1 (omega (arith, lt, ne))
]

-- an empty list has nothing
pub none-of : {A : Type 0} {y : A} → Contains [] y → ⊥
none-of c = omega (arith, c.1)
