-- Bytes that are all zeros.
use Rattle.std.proofs.Common.{◌≡◌, ◌&&◌, ℕ, zero, suc, arith, bit_or, inl, inr, nat_eq, refl}
use Rattle.std.proofs.lemmas.Bool.Decides.{eqb_tells}
use Rattle.std.proofs.lemmas.Nat.{le_or_l}

-- bits that are joined are 0 just where both were
pub none_joined : (a b : ℕ) → nat_eq (bit_or a b) 0 ≡ (nat_eq a 0 && nat_eq b 0)
none_joined zero b = refl
none_joined (suc a) b = elim (eqb_tells (bit_or (suc a) b) 0) [
  | inl same ↦ absurd (omega (arith, le_or_l (suc a) b, same.1))
  | inr other ↦ elim (eqb_tells (suc a) 0) [
    | inl none ↦ absurd (omega (arith, none.1))
    | inr some ↦ rw (other.0, some.0) refl
  ]
]
