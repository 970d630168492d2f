-- A list of no length.
use Rattle.std.proofs.Common.{◌≡◌, List, [], ◌∷◌, length, refl, arith}

pub nil-of : {A : Type 0} (xs : List A) → length xs ≡ 0 → xs ≡ []
nil-of [] e = refl
nil-of (x ∷ xs) e = absurd (omega (arith, e))
