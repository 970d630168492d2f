-- Words on lists that the turn's rule needs.
use Rattle.std.specs.Prelude.{◌≡◌, ℕ, ◌+◌, ◌<◌, ◌≤◌, ◌==◌, nat_lt, nat_le, Bool, true, cond, ◌&&◌, List, [], ◌∷◌}
use Rattle.std.specs.Prelude.{length, Some, slice_get}

-- 1 where the two are one number, and else 0
abbrev pub one_if : ℕ → ℕ → ℕ
one_if x y = cond (x == y) 1 0

-- f of each, added up
abbrev pub total : {A : Type 0} → (A → ℕ) → List A → ℕ
total f [] = 0
total f (x ∷ xs) = f x + total f xs

-- 1 for each number from the first up to, and without, the last
abbrev pub once : ℕ → ℕ → ℕ → ℕ
once first last x = cond (nat_le first x && nat_lt x last) 1 0

-- the longer of two
abbrev pub longer : {A : Type 0} → List A → List A → List A
longer xs ys = cond (nat_lt (length xs) (length ys)) ys xs

module _ {E : Type 0} where
  -- how often the place x stands in the list
  abbrev pub times : ℕ → List (ℕ × E) → ℕ
  times x [] = 0
  times x (y ∷ ys) = one_if x y.0 + times x ys

  -- the places rise, from low on, and are below high
  abbrev pub Rises : ℕ → ℕ → List (ℕ × E) → Type 0
  Rises low high [] = Unit {0}
  Rises low high (x ∷ xs) = (low ≤ x.0) × (x.0 < high) × Rises (x.0 + 1) high xs

  -- a test that the places rise, from low on
  abbrev pub rises : ℕ → List (ℕ × E) → Bool
  rises low [] = true
  rises low (x ∷ xs) = nat_le low x.0 && rises (x.0 + 1) xs

  -- two rising lists in one
  abbrev pub merge_in : ℕ × E → List (ℕ × E) → List (ℕ × E)
  merge_in x [] = x ∷ []
  merge_in x (y ∷ ys) = cond (nat_lt x.0 y.0) (x ∷ y ∷ ys) (y ∷ merge_in x ys)

  abbrev pub merge : List (ℕ × E) → List (ℕ × E) → List (ℕ × E)
  merge [] ys = ys
  merge (x ∷ xs) ys = merge_in x (merge xs ys)

  -- the entries with their places, of which the first is n
  abbrev pub numbered : ℕ → List E → List (ℕ × E)
  numbered n [] = []
  numbered n (e ∷ es) = (n, e) ∷ numbered (n + 1) es

  -- each entry stands in the list at its place
  abbrev pub Stands : List E → List (ℕ × E) → Type 0
  Stands log [] = Unit {0}
  Stands log (x ∷ xs) = (slice_get log x.0 ≡ Some x.1) × Stands log xs

  -- the entries without their places
  abbrev pub entries_of : List (ℕ × E) → List E
  entries_of [] = []
  entries_of (x ∷ xs) = x.1 ∷ entries_of xs

  -- those for which a test holds
  abbrev pub chosen : (E → Bool) → List (ℕ × E) → List (ℕ × E)
  chosen f [] = []
  chosen f (x ∷ xs) = cond (f x.1) (x ∷ chosen f xs) (chosen f xs)
