-- The set of names that were met.
use Rattle.std.proofs.Common.{◌≡◌, ℕ, Bool, true, false, ◌||◌, List, [], ◌∷◌, refl, sym, ap, ap₂, ◌∙◌, bytes_eq}
use Rattle.std.specs.List.{list_any}
use Rattle.std.specs.Ordering.{nat_cmp, is_eq, match_ordering}
use Rattle.std.specs.declared.cmp.Ordering.{Ordering}
use Rattle.std.specs.declared.cmp.Ordering.TheVariants.{Less, Equal, Greater}
use Rattle.std.specs.Cmp.Lexicographic.{slice_cmp}
use Rattle.std.specs.BTreeSet.{insert_key}
use Rattle.std.proofs.lemmas.Map.Text.{is_eq-slice_cmp}
use Rattle.std.proofs.lemmas.Map.Lookups.{exact_bytes}

either-twice : (a b r : Bool) → a ≡ b → (b || r) ≡ (a || (b || r))
either-twice true b r e = rw (sym e) refl
either-twice false b r e = refl

either-swap : (a b r : Bool) → (b || (a || r)) ≡ (a || (b || r))
either-swap true true r = refl
either-swap true false r = refl
either-swap false b r = refl

module _ {K : Type 0} (f : K → List ℕ) where
  -- a name is found by the order as it is by its bytes
  pub any-same : (name : List ℕ) (keys : List K)
      → list_any (λ key. is_eq (slice_cmp nat_cmp name (f key))) keys ≡ list_any (λ key. bytes_eq name (f key)) keys
  any-same name [] = refl
  any-same name (key ∷ keys) = ap₂ (λ a b. a || b) (is_eq-slice_cmp name (f key)) (any-same name keys)

  -- one key more
  pub any-insert : (keys : List K) (key : K) (other : List ℕ)
      → list_any (λ k. bytes_eq other (f k)) (insert_key (λ a b. slice_cmp nat_cmp (f a) (f b)) keys key)
      ≡ (bytes_eq other (f key) || list_any (λ k. bytes_eq other (f k)) keys)
  any-insert [] key other = refl
  any-insert (k ∷ ks) key other = go (slice_cmp nat_cmp (f key) (f k)) refl (any-insert ks key other)
    where
      more : List K
      more = insert_key (λ a b. slice_cmp nat_cmp (f a) (f b)) ks key

      go : (o : Ordering) → slice_cmp nat_cmp (f key) (f k) ≡ o
          → list_any (λ x. bytes_eq other (f x)) more
          ≡ (bytes_eq other (f key) || list_any (λ x. bytes_eq other (f x)) ks)
          → list_any (λ x. bytes_eq other (f x)) (match_ordering o (key ∷ k ∷ ks) (k ∷ ks) (k ∷ more))
          ≡ (bytes_eq other (f key) || (bytes_eq other (f k) || list_any (λ x. bytes_eq other (f x)) ks))
      go Less e ih = refl
      go Equal e ih =
          either-twice (bytes_eq other (f key)) (bytes_eq other (f k)) (list_any (λ x. bytes_eq other (f x)) ks)
          (ap (bytes_eq other) (exact_bytes (f key) (f k) e))
      go Greater e ih = ap (λ b. bytes_eq other (f k) || b) ih
          ∙ either-swap (bytes_eq other (f key)) (bytes_eq other (f k))
          (list_any (λ x. bytes_eq other (f x)) ks)
