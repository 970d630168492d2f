-- Places of back links in a record, and entries of a history by their place.
use Rattle.std.proofs.Common.{◌≡◌, ◌≢◌, ℕ, zero, suc, ◌+◌, ◌<◌, Bool, true, false, cond, List, [], ◌∷◌, ◌++◌, length}
use Rattle.std.proofs.Common.{take, drop, get_or, Some, refl, ap, ◌∙◌, subst, arith, Contains}
use Rattle.std.specs.Prelude.{slice_get}
use Rattle.nofs_inode.specs.declared.inode.BackLink.{BackLink}
use Rattle.nofs_history.specs.Machine.{same_link, set_link, without_link, place_for_link}
use Rattle.nofs_crashlaw.specs.Runs.Pairs.{HasAt}

-- Back links

pub at-get : (ls : List BackLink) (b : ℕ) (link none : BackLink) → HasAt ls b link → get_or ls b none ≡ link
at-get [] b link none h = absurd h
at-get (l ∷ ls) zero link none h = h
at-get (l ∷ ls) (suc b) link none h = at-get ls b link none h

pub at-contains : (ls : List BackLink) (b : ℕ) (link : BackLink) → HasAt ls b link → Contains ls link
at-contains [] b link h = absurd h
at-contains (l ∷ ls) zero link h = (0, omega arith, h)
at-contains (l ∷ ls) (suc b) link h = let r = at-contains ls b link h in let lt = r.1 in
    (suc r.0, omega (arith, lt), r.2)

pub contains-at : (ls : List BackLink) (link : BackLink) → Contains ls link → (b : ℕ) × HasAt ls b link
contains-at ls link (b, lt, e) = (b, go ls b lt e)
  where
    go : (ls : List BackLink) (b : ℕ) → b < length ls → get_or ls b link ≡ link → HasAt ls b link
    go [] b lt e = absurd (omega (arith, lt))
    go (l ∷ ls) zero lt e = e
    go (l ∷ ls) (suc b) lt e = go ls b (omega (arith, lt)) e

-- a new link is in its place, and every other place has what it had
pub set-here : (ls : List BackLink) (b : ℕ) (link : BackLink) → b < length ls → HasAt (set_link ls b link) b link
set-here [] b link lt = absurd (omega (arith, lt))
set-here (l ∷ ls) zero link lt = refl
set-here (l ∷ ls) (suc b) link lt = set-here ls b link (omega (arith, lt))

pub set-beside : (ls : List BackLink) (b c : ℕ) (link other : BackLink) → b ≢ c → HasAt ls b link
    → HasAt (set_link ls c other) b link
set-beside [] b c link other ne h = absurd h
set-beside (l ∷ ls) zero zero link other ne h = absurd (ne refl)
set-beside (l ∷ ls) zero (suc c) link other ne h = h
set-beside (l ∷ ls) (suc b) zero link other ne h = h
set-beside (l ∷ ls) (suc b) (suc c) link other ne h = set-beside ls b c link other (λ e. ne (ap suc e)) h

-- a link that is cleared leaves the others where they are
pub cleared-beside : (ls : List BackLink) (b : ℕ) (link other : BackLink)
    → same_link link other ≡ false → HasAt ls b link
    → HasAt (without_link other ls) b link
cleared-beside [] b link other ne h = absurd h
cleared-beside (l ∷ ls) zero link other ne h = rw h (rw ne refl)
cleared-beside (l ∷ ls) (suc b) link other ne h = cleared-beside ls b link other ne h

-- a place that was searched for has a link that passes
pub place-passes : (test : BackLink → Bool) (ls : List BackLink) (at c : ℕ) → place_for_link test ls at ≡ Some c
    → (b : ℕ) × (c ≡ at + b) × ((link : BackLink) → HasAt ls b link → test link ≡ true)
place-passes test [] at c e = cc
place-passes test (l ∷ ls) at c e = go (test l) refl (λ q. place-passes test ls (suc at) c q) e
  where
    go : (t : Bool) → test l ≡ t → (place_for_link test ls (suc at) ≡ Some c
        → (b : ℕ) × (c ≡ suc at + b) × ((link : BackLink) → HasAt ls b link → test link ≡ true))
        → cond t (Some at) (place_for_link test ls (suc at)) ≡ Some c
        → (b : ℕ) × (c ≡ at + b) × ((link : BackLink) → HasAt (l ∷ ls) b link → test link ≡ true)
    go true et ih q = let s : at ≡ c = cc q in
        (0, omega (arith, s), λ link h. subst (λ (k : BackLink). test k ≡ true) h et)
    go false et ih q = let r = ih q in let s = r.1 in (suc r.0, omega (arith, s), λ link h. r.2 link h)

-- Entries of a history

module _ {A : Type 0} where
  pub get-within : (xs : List A) (k : ℕ) (x : A) → slice_get xs k ≡ Some x → k < length xs
  get-within [] k x e = cc e
  get-within (y ∷ xs) zero x e = omega arith
  get-within (y ∷ xs) (suc k) x e = let lt = get-within xs k x e in omega (arith, lt)

  -- one more entry
  pub take-more : (xs : List A) (k : ℕ) (x : A) → slice_get xs k ≡ Some x → take (suc k) xs ≡ take k xs ++ x ∷ []
  take-more [] k x e = cc e
  take-more (y ∷ xs) zero x e = let s : y ≡ x = cc e in ap (λ (z : A). z ∷ []) s
  take-more (y ∷ xs) (suc k) x e = ap (λ (zs : List A). y ∷ zs) (take-more xs k x e)

  -- an entry of a front, in the whole
  pub front-get : (xs : List A) (n k : ℕ) (x : A) → slice_get (take n xs) k ≡ Some x
      → (k < n) × (slice_get xs k ≡ Some x) × (take k (take n xs) ≡ take k xs)
  front-get [] zero k x e = cc e
  front-get [] (suc n) k x e = cc e
  front-get (y ∷ xs) zero k x e = cc e
  front-get (y ∷ xs) (suc n) zero x e = (omega arith, e, refl)
  front-get (y ∷ xs) (suc n) (suc k) x e = let r = front-get xs n k x e in let lt = r.0 in
      (omega (arith, lt), r.1, ap (λ (zs : List A). y ∷ zs) r.2)

  -- an entry of a part, in the whole
  pub part-get : (xs : List A) (q n k : ℕ) (x : A) → slice_get (drop q (take n xs)) k ≡ Some x
      → (q + k < n) × (slice_get xs (q + k) ≡ Some x) × (take q xs ++ take k (drop q (take n xs)) ≡ take (q + k) xs)
  part-get xs zero n k x e =
      let r = front-get xs n k x e in
      let z : k ≡ 0 + k = omega arith in
      let lt = r.0 in
      (omega (arith, lt), subst (λ (p : ℕ). slice_get xs p ≡ Some x) z r.1, r.2 ∙ ap (λ (p : ℕ). take p xs) z)
  part-get [] (suc q) zero k x e = cc e
  part-get [] (suc q) (suc n) k x e = cc e
  part-get (y ∷ xs) (suc q) zero k x e = cc e
  part-get (y ∷ xs) (suc q) (suc n) k x e =
      let r = part-get xs q n k x e in
      let z : suc (q + k) ≡ suc q + k = omega arith in
      let lt = r.0 in (
        omega (arith, lt),
        subst (λ (p : ℕ). slice_get (y ∷ xs) p ≡ Some x) z r.1,
        ap (λ (zs : List A). y ∷ zs) r.2 ∙ ap (λ (p : ℕ). take p (y ∷ xs)) z,
      )
