-- What a test chooses of two lists in one: for users of a turn whose entries name their callers.
use Rattle.std.proofs.Common.{◌≡◌, ℕ, ◌+◌, ◌≤◌, List, [], ◌∷◌, Bool, true, false, cond, ◌&&◌, refl, sym, ap, ◌∙◌, arith}
use Rattle.std.proofs.Common.{ltb, leb, ltb-true, ltb-false}
use Rattle.std.proofs.Common.{lt-ltb, le-ltb}
use Rattle.std.specs.Prelude.{filter}
use Rattle.std.proofs.lemmas.Bool.{leb-true, le-leb}
use Rattle.nofs_turn.specs.Lists.{rises, merge_in, merge, numbered, entries_of, chosen}

both_true : (a b : Bool) → a && b ≡ true → (a ≡ true) × (b ≡ true)
both_true true b e = (refl, e)
both_true false b e = absurd (cc)

and_true : (a b : Bool) → a ≡ true → b ≡ true → a && b ≡ true
and_true a b e k = cc

module _ {E : Type 0} where
  pub entries_of-numbered : (n : ℕ) (es : List E) → entries_of (numbered n es) ≡ es
  entries_of-numbered n [] = refl
  entries_of-numbered n (e ∷ es) = λ i. e ∷ entries_of-numbered (n + 1) es i

  filter_one : (f : E → Bool) (b : Bool) (x : ℕ × E) (xs : List (ℕ × E))
      → filter f (entries_of xs) ≡ entries_of (chosen f xs)
      → cond b (x.1 ∷ filter f (entries_of xs)) (filter f (entries_of xs))
      ≡ entries_of (cond b (x ∷ chosen f xs) (chosen f xs))
  filter_one f true x xs h = λ i. x.1 ∷ h i
  filter_one f false x xs h = h

  pub filter-entries_of : (f : E → Bool) (xs : List (ℕ × E)) → filter f (entries_of xs) ≡ entries_of (chosen f xs)
  filter-entries_of f [] = refl
  filter-entries_of f (x ∷ xs) = filter_one f (f x.1) x xs (filter-entries_of f xs)

  -- the places rise, and may be equal
  Goes : ℕ → List (ℕ × E) → Type 0
  Goes low [] = Unit {0}
  Goes low (x ∷ xs) = (low ≤ x.0) × Goes x.0 xs

  goes_less : (low high : ℕ) (xs : List (ℕ × E)) → low ≤ high → Goes high xs → Goes low xs
  unfolding Goes
  goes_less low high [] le up = tt
  goes_less low high (x ∷ xs) le up = let a = up.0 in (omega arith, up.1)

  goes_of : (low : ℕ) (xs : List (ℕ × E)) → rises low xs ≡ true → Goes low xs
  unfolding Goes
  goes_of low [] e = tt
  goes_of low (x ∷ xs) e = let t = both_true (leb low x.0) (rises (x.0 + 1) xs) e in
      (leb-true low x.0 t.0, goes_less x.0 (x.0 + 1) xs (omega arith) (goes_of (x.0 + 1) xs t.1))

  goes_one : (low : ℕ) (x y : ℕ × E) (ys : List (ℕ × E)) (b : Bool) → ltb x.0 y.0 ≡ b → low ≤ x.0 → Goes low (y ∷ ys)
      → (y.0 ≤ x.0 → Goes y.0 (merge_in x ys)) → Goes low (cond b (x ∷ y ∷ ys) (y ∷ merge_in x ys))
  unfolding Goes
  goes_one low x y ys true e le up more = let l = ltb-true x.0 y.0 e in (le, (omega arith, up.1))
  goes_one low x y ys false e le up more = (up.0, more (ltb-false x.0 y.0 e))

  goes_merge_in : (low : ℕ) (x : ℕ × E) (ys : List (ℕ × E)) → low ≤ x.0 → Goes low ys → Goes low (merge_in x ys)
  unfolding Goes
  goes_merge_in low x [] le up = (le, tt)
  goes_merge_in low x (y ∷ ys) le up = goes_one low x y ys (ltb x.0 y.0) refl le up (λ g. goes_merge_in y.0 x ys g up.1)

  goes_merge : (low : ℕ) (xs ys : List (ℕ × E)) → Goes low xs → Goes low ys → Goes low (merge xs ys)
  unfolding Goes
  goes_merge low [] ys up up' = up'
  goes_merge low (x ∷ xs) ys up up' =
      goes_merge_in low x (merge xs ys) up.0 (goes_merge low xs ys (goes_less low x.0 xs up.0 up.1) up')

  goes_cond : (low : ℕ) (b : Bool) (x : ℕ × E) (xs : List (ℕ × E)) → low ≤ x.0 → Goes x.0 xs
      → Goes low (cond b (x ∷ xs) xs)
  unfolding Goes
  goes_cond low true x xs le up = (le, up)
  goes_cond low false x xs le up = goes_less low x.0 xs le up

  goes_chosen : (low : ℕ) (f : E → Bool) (xs : List (ℕ × E)) → Goes low xs → Goes low (chosen f xs)
  unfolding Goes
  goes_chosen low f [] up = tt
  goes_chosen low f (x ∷ xs) up = goes_cond low (f x.1) x (chosen f xs) up.0 (goes_chosen x.0 f xs up.1)

  -- what is below all others goes first
  first_in : (x : ℕ × E) (ys : List (ℕ × E)) → Goes (x.0 + 1) ys → merge_in x ys ≡ x ∷ ys
  unfolding Goes
  first_in x [] up = refl
  first_in x (y ∷ ys) up = let a = up.0 in let t : ltb x.0 y.0 ≡ true = lt-ltb x.0 y.0 (omega arith) in
      ap (λ b. cond b (x ∷ y ∷ ys) (y ∷ merge_in x ys)) t

  later_in : (x y : ℕ × E) (ys : List (ℕ × E)) → y.0 ≤ x.0 → merge_in x (y ∷ ys) ≡ y ∷ merge_in x ys
  later_in x y ys le = let t : ltb x.0 y.0 ≡ false = le-ltb x.0 y.0 le in
      ap (λ b. cond b (x ∷ y ∷ ys) (y ∷ merge_in x ys)) t

  chosen_first : (fx : Bool) (x : ℕ × E) (zs : List (ℕ × E)) → Goes (x.0 + 1) zs
      → cond fx (x ∷ zs) zs ≡ cond fx (merge_in x zs) zs
  chosen_first true x zs up = sym (first_in x zs up)
  chosen_first false x zs up = refl

  chosen_later : (fx fy : Bool) (x y : ℕ × E) (zs ws : List (ℕ × E)) → y.0 ≤ x.0 → ws ≡ cond fx (merge_in x zs) zs
      → cond fy (y ∷ ws) ws ≡ cond fx (merge_in x (cond fy (y ∷ zs) zs)) (cond fy (y ∷ zs) zs)
  chosen_later true true x y zs ws le h = (λ i. y ∷ h i) ∙ sym (later_in x y zs le)
  chosen_later true false x y zs ws le h = h
  chosen_later false true x y zs ws le h = λ i. y ∷ h i
  chosen_later false false x y zs ws le h = h

  chosen_one : (f : E → Bool) (x y : ℕ × E) (ys : List (ℕ × E)) (b : Bool) → ltb x.0 y.0 ≡ b → Goes y.0 ys
      → chosen f (merge_in x ys) ≡ cond (f x.1) (merge_in x (chosen f ys)) (chosen f ys)
      → chosen f (cond b (x ∷ y ∷ ys) (y ∷ merge_in x ys)) ≡ cond (f x.1) (merge_in x (chosen f (y ∷ ys)))
      (chosen f (y ∷ ys))
  chosen_one f x y ys true e up h = let l = ltb-true x.0 y.0 e in chosen_first (f x.1) x (chosen f (y ∷ ys))
      (goes_cond (x.0 + 1) (f y.1) y (chosen f ys) (omega arith) (goes_chosen y.0 f ys up))
  chosen_one f x y ys false e up h =
      chosen_later (f x.1) (f y.1) x y (chosen f ys) (chosen f (merge_in x ys)) (ltb-false x.0 y.0 e) h

  chosen-merge_in : (low : ℕ) (f : E → Bool) (x : ℕ × E) (ys : List (ℕ × E)) → Goes low ys
      → chosen f (merge_in x ys) ≡ cond (f x.1) (merge_in x (chosen f ys)) (chosen f ys)
  unfolding Goes
  chosen-merge_in low f x [] up = refl
  chosen-merge_in low f x (y ∷ ys) up = chosen_one f x y ys (ltb x.0 y.0) refl up.1 (chosen-merge_in y.0 f x ys up.1)

  merge_cond : (b : Bool) (x : ℕ × E) (xs ys : List (ℕ × E))
      → cond b (merge_in x (merge xs ys)) (merge xs ys) ≡ merge (cond b (x ∷ xs) xs) ys
  merge_cond true x xs ys = refl
  merge_cond false x xs ys = refl

  chosen-merge : (low : ℕ) (f : E → Bool) (xs ys : List (ℕ × E)) → Goes low xs → Goes low ys
      → chosen f (merge xs ys) ≡ merge (chosen f xs) (chosen f ys)
  unfolding Goes
  chosen-merge low f [] ys up up' = refl
  chosen-merge low f (x ∷ xs) ys up up' =
      let less = goes_less low x.0 xs up.0 up.1 in
      chosen-merge_in low f x (merge xs ys) (goes_merge low xs ys less up')
      ∙ (ap (λ zs. cond (f x.1) (merge_in x zs) zs) (chosen-merge low f xs ys less up')
      ∙ merge_cond (f x.1) x (chosen f xs) (chosen f ys))

  merge_nil : (low : ℕ) (xs : List (ℕ × E)) → rises low xs ≡ true → merge xs [] ≡ xs
  merge_nil low [] e = refl
  merge_nil low (x ∷ xs) e =
      let t = both_true (leb low x.0) (rises (x.0 + 1) xs) e in
      ap (merge_in x) (merge_nil (x.0 + 1) xs t.1) ∙ first_in x xs (goes_of (x.0 + 1) xs t.1)

  rises_less : (low high : ℕ) (xs : List (ℕ × E)) → low ≤ high → rises high xs ≡ true → rises low xs ≡ true
  rises_less low high [] le e = refl
  rises_less low high (x ∷ xs) le e =
      let t = both_true (leb high x.0) (rises (x.0 + 1) xs) e in
      let h = leb-true high x.0 t.0 in
      and_true (leb low x.0) (rises (x.0 + 1) xs) (le-leb low x.0 (omega arith)) t.1

  rises_cond : (low : ℕ) (b : Bool) (x : ℕ × E) (xs : List (ℕ × E))
      → low ≤ x.0 → rises (x.0 + 1) xs ≡ true → rises low (cond b (x ∷ xs) xs) ≡ true
  rises_cond low true x xs le e = and_true (leb low x.0) (rises (x.0 + 1) xs) (le-leb low x.0 le) e
  rises_cond low false x xs le e = rises_less low (x.0 + 1) xs (omega arith) e

  rises_chosen : (low : ℕ) (f : E → Bool) (xs : List (ℕ × E)) → rises low xs ≡ true → rises low (chosen f xs) ≡ true
  rises_chosen low f [] e = refl
  rises_chosen low f (x ∷ xs) e =
      let t = both_true (leb low x.0) (rises (x.0 + 1) xs) e in
      rises_cond low (f x.1) x (chosen f xs) (leb-true low x.0 t.0) (rises_chosen (x.0 + 1) f xs t.1)

  -- one of two lists has none
  pub joined_own : (f : E → Bool) (xs ys : List (ℕ × E))
      → rises 0 xs ≡ true → rises 0 ys ≡ true → chosen f xs ≡ [] → chosen f (merge xs ys) ≡ chosen f ys
  joined_own f xs ys e k none = chosen-merge 0 f xs ys (goes_of 0 xs e) (goes_of 0 ys k)
      ∙ ap (λ zs. merge zs (chosen f ys)) none

  pub joined_other : (f : E → Bool) (xs ys : List (ℕ × E))
      → rises 0 xs ≡ true → rises 0 ys ≡ true → chosen f ys ≡ [] → chosen f (merge xs ys) ≡ chosen f xs
  joined_other f xs ys e k none = chosen-merge 0 f xs ys (goes_of 0 xs e) (goes_of 0 ys k)
      ∙ (ap (merge (chosen f xs)) none ∙ merge_nil 0 (chosen f xs) (rises_chosen 0 f xs e))
