-- Searching and counting among the numbers below a bound.
use Rattle.std.specs.Prelude.{ℕ, zero, suc, ◌+◌, Bool, List, [], ◌∷◌, Option, Some, None, if◌then◌else◌}

-- how many of the first n numbers pass
unfoldable pub count_below : (ℕ → Bool) → ℕ → ℕ
count_below test zero = 0
count_below test (suc n) = if test n then 1 + count_below test n else count_below test n

-- the least number from `at` on, of the next n, that passes
unfoldable pub least_from : (ℕ → Bool) → ℕ → ℕ → Option ℕ
least_from test at zero = None
least_from test at (suc n) = if test at then Some at else least_from test (suc at) n

-- the first of a list of answers that is one
abbrev pub first_of : {A : Type 0} → List (Option A) → Option A
first_of [] = None
first_of (None ∷ rest) = first_of rest
first_of (Some x ∷ rest) = Some x
