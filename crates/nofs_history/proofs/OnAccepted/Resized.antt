-- The values of a file of another size.
use Rattle.std.proofs.Common.{◌≡◌, ℕ, ◌+◌, ◌-◌, ◌%◌, ◌<◌, ◌≤◌, inl, inr, min, Bool, true, false, ◌&&◌, not, cond, eqb}
use Rattle.std.proofs.Common.{ltb, leb, Option, Some, None}
use Rattle.std.proofs.Common.{unwrap_or, refl, sym, ap, ◌∙◌, arith, ne_eqb, eq-eqb, ◌≢◌, take, ◌++◌}
use Rattle.std.proofs.lemmas.Bool.{cases_lt}
use Rattle.nofs_ptrs.specs.Paths.{slot_limit}
use Rattle.nofs_model.specs.declared.image.value.Value.{Value}
use Rattle.nofs_model.specs.declared.image.value.Value.TheVariants.{Hole, Bytes, Lost}
use Rattle.nofs_history.specs.Meta.{is_bytes}
use Rattle.nofs_history.specs.Machine.{slots_in, trimmed, bytes_in, zero_bytes, trimmed_value}
use Rattle.nofs_history.specs.Accepted.Files.{resized_value, end_value}

-- inside what stays
inside : (a b c : Bool) (cut : ℕ) (v : Value) → cond (a && (b && c)) (trimmed_value cut v) v
    ≡ unwrap_or (cond (a && (b && (c && is_bytes v)))
    (Some (Bytes (take cut (bytes_in v) ++ zero_bytes (1024 - cut)))) None) v
unfolding trimmed
inside false b c cut v = refl
inside true false c cut v = refl
inside true true false cut v = refl
inside true true true cut (Bytes content) = refl
inside true true true cut Hole = refl
inside true true true cut Lost = refl

pub resized-at : (old size k : ℕ) (v : Value)
    → k < slot_limit → end_value old size (min (slots_in old) (slots_in size)) k
    (cond (ltb k (min (slots_in old) (slots_in size))) v Hole) ≡ unwrap_or (resized_value old size v k) v
resized-at old size k v lt = elim (cases_lt k (min (slots_in old) (slots_in size))) [
  | inl less ↦ within (min (slots_in old) (slots_in size)) less
  | inr le ↦ behind (min (slots_in old) (slots_in size)) le
]
  where
    given : ℕ → Option Value
    given m = cond (leb m k) (cond (ltb k slot_limit) (Some Hole) None)
        (cond (leb old size && (eqb (k + 1) m && (not (eqb (old % 1024) 0) && is_bytes v)))
        (Some (Bytes (take (old % 1024) (bytes_in v) ++ zero_bytes (1024 - old % 1024)))) None)

    within : (m : ℕ) → k < m → end_value old size m k (cond (ltb k m) v Hole) ≡ unwrap_or (given m) v
    within m less =
        let a : ltb k m ≡ true = grind (arith, less) in
        let b : leb m k ≡ false = grind (arith, less) in
        rw (a, b) (inside (leb old size) (eqb (k + 1) m) (not (eqb (old % 1024) 0)) (old % 1024) v)

    behind : (m : ℕ) → m ≤ k → end_value old size m k (cond (ltb k m) v Hole) ≡ unwrap_or (given m) v
    behind m le =
        let a : ltb k m ≡ false = grind (arith, le) in
        let b : leb m k ≡ true = grind (arith, le) in
        let c : ltb k slot_limit ≡ true = grind (arith, lt) in
        let d : eqb (k + 1) m ≡ false = ne_eqb (k + 1) m (λ q. omega (arith, q, le)) in
        rw (a, b, c, d) (none (leb old size))
      where
        none : (t : Bool)
            → cond (t && (false && not (eqb (old % 1024) 0))) (trimmed_value (old % 1024) Hole) Hole ≡ Hole
        none true = refl
        none false = refl

-- the last slot of a file that does not shrink
pub end-given : (o old size k m : ℕ) (v : Value) → o ≡ old → m ≡ min (slots_in old) (slots_in size)
    → k < m → o ≤ size → k + 1 ≡ m → o % 1024 ≢ 0
    → cond (is_bytes v) (Some (Bytes (trimmed (o % 1024) (bytes_in v)))) None ≡ resized_value old size v k
unfolding trimmed
end-given o old size k m v same least less le last part =
    ap (λ (n : ℕ). cond (is_bytes v) (Some (Bytes (trimmed (n % 1024) (bytes_in v)))) None) same
    ∙ go (min (slots_in old) (slots_in size)) (sym least)
  where
    go : (n : ℕ) → n ≡ m → cond (is_bytes v) (Some (Bytes (trimmed (old % 1024) (bytes_in v)))) None
        ≡ cond (leb n k) (cond (ltb k slot_limit) (Some Hole) None)
        (cond (leb old size && (eqb (k + 1) n && (not (eqb (old % 1024) 0) && is_bytes v)))
        (Some (Bytes (take (old % 1024) (bytes_in v) ++ zero_bytes (1024 - old % 1024)))) None)
    go n e =
        let a : leb n k ≡ false = under n k (omega (arith, e, less)) in
        let b : leb old size ≡ true = over old size (omega (arith, same, le)) in
        let c : eqb (k + 1) n ≡ true = eq-eqb (k + 1) n (last ∙ sym e) in
        let d : eqb (old % 1024) 0 ≡ false = ne_eqb (old % 1024) 0 (λ q. part (ap (λ (x : ℕ). x % 1024) same ∙ q)) in
        rw (a, b, c, d) refl
      where
        under : (n k : ℕ) → k < n → leb n k ≡ false
        under n k lt = grind (arith, lt)

        over : (x y : ℕ) → x ≤ y → leb x y ≡ true
        over x y le = grind (arith, le)
