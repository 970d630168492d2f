-- Lists that begin one another, totals over a list, and the two words of a turn.
use Rattle.std.proofs.Common.{◌≡◌, ◌≢◌, ℕ, zero, suc, ◌+◌, ◌*◌, ◌%◌, ◌<◌, ◌≤◌, List, [], ◌∷◌, ◌++◌, length, set, refl}
use Rattle.std.proofs.Common.{sym, ap, ◌∙◌, arith, append_assoc}
use Rattle.std.proofs.Common.{length-append, add-one, Some, drop}
use Rattle.std.proofs.lemmas.List.{append-nil}
use Rattle.std.specs.Prelude.{bit_or, bit_and, slice_get}
use Rattle.std.specs.Int.Bits.{or_add_and}
use Rattle.std.proofs.lemmas.Nat.{and_mask}
use mathlib.Core.Option.{some, some-injective, some-ne-none}
use mathlib.Core.List.{IsPrefix}
use lib.ListN.{get_elem?}
use Rattle.std.proofs.lemmas.Bool.Decides.{nat_tests}
use Rattle.nofs_turn.specs.Lists.{one_if, total}

pub prefix_self : {A : Type 0} (xs : List A) → IsPrefix xs xs
prefix_self xs = ([], append-nil xs)

pub prefix_trans : {A : Type 0} (xs ys zs : List A) → IsPrefix xs ys → IsPrefix ys zs → IsPrefix xs zs
prefix_trans xs ys zs p q = (p.0 ++ q.0, sym (append_assoc xs p.0 q.0) ∙ (ap (λ w. w ++ q.0) p.1 ∙ q.1))

pub prefix_length : {A : Type 0} (xs ys : List A) → IsPrefix xs ys → length xs ≤ length ys
prefix_length xs ys p = omega (arith, sym (ap length p.1) ∙ length-append xs p.0)

module _ {A : Type 0} (f : A → ℕ) where
  pub total_set : (xs : List A) (j : ℕ) (v w : A) → get_elem? xs j ≡ some v
      → total f (set xs j w) + f v ≡ total f xs + f w
  total_set [] j v w e = absurd (some-ne-none v (sym e))
  total_set (x ∷ xs) zero v w e = let g : f x ≡ f v = ap f (some-injective x v e) in omega arith
  total_set (x ∷ xs) (suc j) v w e = let h = total_set xs j v w e in omega arith

  pub total_snoc : (xs : List A) (w : A) → total f (xs ++ w ∷ []) ≡ total f xs + f w
  total_snoc [] w = omega arith
  total_snoc (x ∷ xs) w = let h = total_snoc xs w in omega arith

  pub part_le : (xs : List A) (j : ℕ) (v : A) → get_elem? xs j ≡ some v → f v ≤ total f xs
  part_le [] j v e = absurd (some-ne-none v (sym e))
  part_le (x ∷ xs) zero v e = let g : f x ≡ f v = ap f (some-injective x v e) in omega arith
  part_le (x ∷ xs) (suc j) v e = let h = part_le xs j v e in omega arith

  pub two_parts : (xs : List A) (i j : ℕ) (v w : A) → get_elem? xs i ≡ some v → get_elem? xs j ≡ some w
      → i ≢ j → f v + f w ≤ total f xs
  two_parts [] i j v w e k n = absurd (some-ne-none v (sym e))
  two_parts (x ∷ xs) zero zero v w e k n = absurd (n refl)
  two_parts (x ∷ xs) zero (suc j) v w e k n = let g : f x ≡ f v = ap f (some-injective x v e) in
      let h = part_le xs j w k in omega arith
  two_parts (x ∷ xs) (suc i) zero v w e k n = let g : f x ≡ f w = ap f (some-injective x w k) in
      let h = part_le xs i v e in omega arith
  two_parts (x ∷ xs) (suc i) (suc j) v w e k n = let h = two_parts xs i j v w e k (λ s. n (ap suc s)) in omega arith

pub prefix_get : {A : Type 0} (xs ys : List A) (k : ℕ) (x : A) → IsPrefix xs ys → slice_get xs k ≡ Some x
    → slice_get ys k ≡ Some x
prefix_get [] ys k x p h = absurd cc
prefix_get (y ∷ xs) [] k x p h = absurd (cc (p.1))
prefix_get (y ∷ xs) (z ∷ ys) zero x p h = cc (p.1, h)
prefix_get (y ∷ xs) (z ∷ ys) (suc k) x p h = prefix_get xs ys k x (p.0, cc (p.1)) h

-- of two beginnings of one list the shorter begins the longer
pub prefix_shorter : {A : Type 0} (xs ys zs : List A) → IsPrefix xs zs → IsPrefix ys zs → length xs ≤ length ys
    → IsPrefix xs ys
prefix_shorter [] ys zs p q le = (ys, refl)
prefix_shorter (x ∷ xs) [] zs p q le = absurd (omega arith)
prefix_shorter (x ∷ xs) (y ∷ ys) [] p q le = absurd (cc (p.1))
prefix_shorter (x ∷ xs) (y ∷ ys) (z ∷ zs) p q le =
    let heads : x ≡ y = cc (p.1, q.1) in
    let rest = prefix_shorter xs ys zs (p.0, cc (p.1)) (q.0, cc (q.1)) (omega arith) in
    (rest.0, cc (heads, rest.1))

pub drop_prefix : {A : Type 0} (xs ys : List A) (p : IsPrefix xs ys) → drop (length xs) ys ≡ p.0
drop_prefix [] ys p = sym p.1
drop_prefix (x ∷ xs) [] p = absurd (cc (p.1))
drop_prefix (x ∷ xs) (y ∷ ys) p = drop_prefix xs ys (p.0, cc (p.1))

pub get_here : {A : Type 0} (xs ys : List A) (y : A) → slice_get (xs ++ y ∷ ys) (length xs) ≡ Some y
get_here [] ys y = refl
get_here (x ∷ xs) ys y = get_here xs ys y

pub drop_get : {A : Type 0} (xs : List A) (a : ℕ) (x : A) → slice_get xs a ≡ Some x → drop a xs ≡ x ∷ drop (a + 1) xs
drop_get [] a x h = absurd cc
drop_get (y ∷ xs) zero x h = cc
drop_get (y ∷ xs) (suc a) x h = rw add-one (drop_get xs a x h ∙ rw add-one refl)

pub drop_all : {A : Type 0} (xs : List A) (a : ℕ) → length xs ≡ a → drop a xs ≡ []
drop_all [] zero h = refl
drop_all [] (suc a) h = refl
drop_all (x ∷ xs) zero h = absurd (omega arith)
drop_all (x ∷ xs) (suc a) h = drop_all xs a (omega arith)

-- the lowest bit set
pub or_one : (n t : ℕ) → t < 2 → bit_or (2 * n + t) 1 ≡ 2 * n + 1
or_one n t h =
    let m : ℕ = 2 * n + t in
    let a : bit_or m 1 + bit_and m 1 ≡ m + 1 = or_add_and m 1 in
    let b : bit_and m 1 ≡ m % 2 = and_mask m 1 in
    omega arith

pub one_if_same : (x : ℕ) → one_if x x ≡ 1
one_if_same x = grind (arith, nat_tests)

pub one_if_apart : (x y : ℕ) → x ≢ y → one_if x y ≡ 0
one_if_apart x y h = grind (arith, nat_tests)
