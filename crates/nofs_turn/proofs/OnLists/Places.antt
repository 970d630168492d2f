-- Entries with their places: rising lists, two of them in one, and a list that has each entry from a place on.
use Rattle.std.proofs.Common.{◌≡◌, ◌≢◌, ℕ, zero, suc, ◌+◌, ◌-◌, ◌<◌, ◌≤◌, List, [], ◌∷◌, ◌++◌, length, drop, Some, Bool}
use Rattle.std.proofs.Common.{true, false, cond, refl, sym, ap}
use Rattle.std.proofs.Common.{◌∙◌, subst, arith, ltb, leb, ltb-true, ltb-false, append_assoc, length-append}
use Rattle.std.proofs.Common.{length-drop}
use Rattle.std.proofs.lemmas.Bool.{le-leb}
use Rattle.std.specs.Prelude.{slice_get}
use Rattle.std.proofs.lemmas.Bool.Decides.{nat_tests}
use mathlib.Core.Option.{some, some-injective, some-ne-none}
use mathlib.Core.List.{IsPrefix}
use lib.ListN.{get_elem?}
use Rattle.nofs_turn.specs.Lists.{one_if, times, total, once, Rises, rises, merge_in, merge, longer, numbered, Stands}
use Rattle.nofs_turn.proofs.OnLists.Words.{one_if_same, one_if_apart, prefix_self, prefix_get, prefix_shorter}
use Rattle.nofs_turn.proofs.OnLists.Words.{drop_prefix, get_here, drop_get, drop_all}

once_split : (a n m x : ℕ) → a ≤ n → n ≤ m → once a n x + once n m x ≡ once a m x
once_split a n m x low high = grind (arith, nat_tests)

once_none : (a x : ℕ) → once a (a + 0) x ≡ 0
once_none a x = grind (arith, nat_tests)

once_next : (a k x : ℕ) → once a (a + suc k) x ≡ one_if x a + once (a + 1) ((a + 1) + k) x
once_next a k x = grind (arith, nat_tests)

once_here : (a k : ℕ) → once a (a + suc k) a ≡ 1
once_here a k = grind (arith, nat_tests)

once_inside : (a n x : ℕ) → 0 < once a n x → (a ≤ x) × (x < n)
once_inside a n x h = (grind (arith, nat_tests), grind (arith, nat_tests))

pub once_le : (a n x : ℕ) → once a n x ≤ 1
once_le a n x = grind (arith, nat_tests)

pub longer_begins : {A : Type 0} (xs ys zs : List A) → IsPrefix xs zs → IsPrefix ys zs → IsPrefix (longer xs ys) zs
longer_begins xs ys zs p q = by_test (ltb (length xs) (length ys))
  where
    by_test : (b : Bool) → IsPrefix (cond b ys xs) zs
    by_test true = q
    by_test false = p

pub longer_both : {A : Type 0} (xs ys zs : List A) → IsPrefix xs zs → IsPrefix ys zs
    → IsPrefix xs (longer xs ys) × IsPrefix ys (longer xs ys)
longer_both {A} xs ys zs p q = by_test (ltb (length xs) (length ys)) refl
  where
    by_test : (b : Bool) → ltb (length xs) (length ys) ≡ b → IsPrefix xs (cond b ys xs) × IsPrefix ys (cond b ys xs)
    by_test true e = let lt = ltb-true (length xs) (length ys) e in
        (prefix_shorter xs ys zs p q (omega arith), prefix_self ys)
    by_test false e = let ge = ltb-false (length xs) (length ys) e in
        (prefix_self xs, prefix_shorter ys xs zs q p (omega arith))

-- a total to which one alone adds
total_none : {A : Type 0} (f : A → ℕ) (xs : List A) → ((i : ℕ) (u : A) → get_elem? xs i ≡ some u → f u ≡ 0)
    → total f xs ≡ 0
total_none f [] none = refl
total_none f (x ∷ xs) none = let h = none 0 x refl in let t = total_none f xs (λ i u k. none (suc i) u k) in omega arith

pub total_alone : {A : Type 0} (f : A → ℕ) (xs : List A) (j : ℕ) (v : A) → get_elem? xs j ≡ some v
    → ((i : ℕ) (u : A) → i ≢ j → get_elem? xs i ≡ some u → f u ≡ 0) → total f xs ≡ f v
total_alone f [] j v e none = absurd (some-ne-none v (sym e))
total_alone f (x ∷ xs) zero v e none =
    let g : f x ≡ f v = ap f (some-injective x v e) in
    let r = total_none f xs (λ i u k. none (suc i) u (λ z. omega arith) k) in
    omega arith
total_alone f (x ∷ xs) (suc j) v e none =
    let z : f x ≡ 0 = none 0 x (λ q. omega arith) refl in
    let h = total_alone f xs j v e (λ i u n k. none (suc i) u (λ q. n (omega arith)) k) in
    omega arith

module _ {E : Type 0} where
  times_append : (q : ℕ) (xs ys : List (ℕ × E)) → times q (xs ++ ys) ≡ times q xs + times q ys
  times_append q [] ys = omega arith
  times_append q (x ∷ xs) ys = let h = times_append q xs ys in omega arith

  times_numbered : (q n : ℕ) (es : List E) → times q (numbered n es) ≡ once n (n + length es) q
  times_numbered q n [] = sym (once_none n q)
  times_numbered q n (e ∷ es) = let h = times_numbered q (n + 1) es in let o = once_next n (length es) q in omega arith

  pub places_more : (q start : ℕ) (m : List (ℕ × E)) (log ys : List E) → IsPrefix log ys → length log ≤ length ys
      → start ≤ length log
      → times q (m ++ numbered (length log) (drop (length log) ys)) + once start (length log) q
      ≡ times q m + once start (length ys) q
  places_more q start m log ys p le grown =
      let a = times_append q m (numbered (length log) (drop (length log) ys)) in
      let b = times_numbered q (length log) (drop (length log) ys) in
      let l : length (drop (length log) ys) ≡ length ys - length log = length-drop (length log) ys in
      let o = once_split start (length log) (length ys) q grown le in
      let same : once (length log) (length log + length (drop (length log) ys)) q ≡ once (length log) (length ys) q =
      ap (λ n. once (length log) n q) (omega arith) in
      omega arith

  pub rises_wider : (low high high' : ℕ) (xs : List (ℕ × E)) → high ≤ high' → Rises low high xs → Rises low high' xs
  rises_wider low high high' [] le up = tt
  rises_wider low high high' (x ∷ xs) le up = let a = up.1 in
      (up.0, omega arith, rises_wider (x.0 + 1) high high' xs le up.2)

  rises_less : (low low' high : ℕ) (xs : List (ℕ × E)) → low ≤ low' → Rises low' high xs → Rises low high xs
  rises_less low low' high [] le up = tt
  rises_less low low' high (x ∷ xs) le up = let a = up.0 in (omega arith, up.1, up.2)

  rises_numbered : (low n high : ℕ) (es : List E) → low ≤ n → n + length es ≤ high → Rises low high (numbered n es)
  rises_numbered low n high [] le room = tt
  rises_numbered low n high (e ∷ es) le room =
      (le, omega arith, rises_numbered (n + 1) (n + 1) high es (omega arith) (omega arith))

  pub rises_append : (low n high : ℕ) (xs : List (ℕ × E)) (es : List E)
      → low ≤ n → n + length es ≤ high → Rises low n xs → Rises low high (xs ++ numbered n es)
  rises_append low n high [] es le room up = rises_numbered low n high es le room
  rises_append low n high (x ∷ xs) es le room up = let a = up.1 in
      (up.0, omega arith, rises_append (x.0 + 1) n high xs es (omega arith) room up.2)

  pub rises_test : (low high : ℕ) (xs : List (ℕ × E)) → Rises low high xs → rises low xs ≡ true
  rises_test low high [] up = refl
  rises_test low high (x ∷ xs) up = let t : leb low x.0 ≡ true = le-leb low x.0 up.0 in
      rw t (rises_test (x.0 + 1) high xs up.2)

  pub stands_more : (log ys : List E) (xs : List (ℕ × E)) → IsPrefix log ys → Stands log xs → Stands ys xs
  stands_more log ys [] p s = tt
  stands_more log ys (x ∷ xs) p s = (prefix_get log ys x.0 x.1 p s.0, stands_more log ys xs p s.1)

  stands_numbered : (log es : List E) → Stands (log ++ es) (numbered (length log) es)
  stands_numbered log [] = tt
  stands_numbered log (e ∷ es) = (
    get_here log es e,
    subst (λ (p : List E × ℕ). Stands p.0 (numbered p.1 es))
        (λ i. (append_assoc log (e ∷ []) es i, length-append log (e ∷ []) i))
        (stands_numbered (log ++ e ∷ []) es),
  )

  stands_append : (log : List E) (xs ys : List (ℕ × E)) → Stands log xs → Stands log ys → Stands log (xs ++ ys)
  stands_append log [] ys s t = t
  stands_append log (x ∷ xs) ys s t = (s.0, stands_append log xs ys s.1 t)

  pub stands_given : (log ys : List E) (m : List (ℕ × E)) → IsPrefix log ys → Stands log m
      → Stands ys (m ++ numbered (length log) (drop (length log) ys))
  stands_given log ys m p s =
      let r = drop_prefix log ys p in
      stands_append ys m (numbered (length log) (drop (length log) ys)) (stands_more log ys m p s)
      (subst (λ (q : List E × List E). Stands q.0 (numbered (length log) q.1)) (λ i. (p.1 i, sym r i))
      (stands_numbered log p.0))

  times_one : (x y : ℕ × E) (ys : List (ℕ × E)) (z : ℕ) (b : Bool) → times z (merge_in x ys) ≡ one_if z x.0 + times z ys
      → times z (cond b (x ∷ y ∷ ys) (y ∷ merge_in x ys)) ≡ one_if z x.0 + times z (y ∷ ys)
  times_one x y ys z true h = refl
  times_one x y ys z false h = omega arith

  times_merge_in : (z : ℕ) (x : ℕ × E) (ys : List (ℕ × E)) → times z (merge_in x ys) ≡ one_if z x.0 + times z ys
  times_merge_in z x [] = refl
  times_merge_in z x (y ∷ ys) = times_one x y ys z (ltb x.0 y.0) (times_merge_in z x ys)

  pub times_merge : (z : ℕ) (xs ys : List (ℕ × E)) → times z (merge xs ys) ≡ times z xs + times z ys
  times_merge z [] ys = omega arith
  times_merge z (x ∷ xs) ys = let h = times_merge z xs ys in let k = times_merge_in z x (merge xs ys) in omega arith

  times_below : (low high x : ℕ) (xs : List (ℕ × E)) → x < low → Rises low high xs → times x xs ≡ 0
  times_below low high x [] lt up = refl
  times_below low high x (y ∷ ys) lt up =
      let a : low ≤ y.0 = up.0 in
      let h : times x ys ≡ 0 = times_below (y.0 + 1) high x ys (omega arith) up.2 in
      let e = one_if_apart x y.0 (λ q. omega arith) in
      omega arith

  rises_one : (low high : ℕ) (x y : ℕ × E) (ys : List (ℕ × E)) (b : Bool)
      → ltb x.0 y.0 ≡ b → low ≤ x.0 → x.0 < high → x.0 ≢ y.0 → Rises low high (y ∷ ys)
      → (y.0 < x.0 → Rises (y.0 + 1) high (merge_in x ys))
      → Rises low high (cond b (x ∷ y ∷ ys) (y ∷ merge_in x ys))
  rises_one low high x y ys true e le lt apart up more = let l : x.0 < y.0 = ltb-true x.0 y.0 e in
      (le, lt, (omega arith, up.1, up.2))
  rises_one low high x y ys false e le lt apart up more = let g : y.0 ≤ x.0 = ltb-false x.0 y.0 e in
      (up.0, up.1, more (omega arith))

  rises_merge_in : (low high : ℕ) (x : ℕ × E) (ys : List (ℕ × E)) → low ≤ x.0 → x.0 < high → Rises low high ys
      → times x.0 ys ≡ 0
      → Rises low high (merge_in x ys)
  rises_merge_in low high x [] le lt up none = (le, lt, tt)
  rises_merge_in low high x (y ∷ ys) le lt up none =
      let apart : x.0 ≢ y.0 = λ e. let t = one_if_same x.0 in
      let g : one_if x.0 x.0 ≡ one_if x.0 y.0 = ap (one_if x.0) e in omega arith in
      rises_one low high x y ys (ltb x.0 y.0) refl le lt apart up
      (λ l. rises_merge_in (y.0 + 1) high x ys (omega arith) lt up.2 (omega arith))

  pub rises_merge : (low high : ℕ) (xs ys : List (ℕ × E)) → Rises low high xs → Rises low high ys
      → ((x : ℕ) → times x xs + times x ys ≤ 1)
      → Rises low high (merge xs ys)
  rises_merge low high [] ys up up' alone = up'
  rises_merge low high (x ∷ xs) ys up up' alone =
      let here = one_if_same x.0 in
      let t = times_merge x.0 xs ys in
      let o = alone x.0 in
      rises_merge_in low high x (merge xs ys) up.0 up.1
      (rises_merge low high xs ys (rises_less low (x.0 + 1) high xs (let a = up.0 in omega arith) up.2) up'
      (λ z. let h = alone z in omega arith))
      (omega arith)

  stands_one : (log : List E) (x y : ℕ × E) (ys : List (ℕ × E)) (b : Bool) → Stands log (x ∷ y ∷ ys)
      → Stands log (merge_in x ys)
      → Stands log (cond b (x ∷ y ∷ ys) (y ∷ merge_in x ys))
  stands_one log x y ys true s t = s
  stands_one log x y ys false s t = (s.1.0, t)

  stands_merge_in : (log : List E) (x : ℕ × E) (ys : List (ℕ × E)) → Stands log (x ∷ ys) → Stands log (merge_in x ys)
  stands_merge_in log x [] s = s
  stands_merge_in log x (y ∷ ys) s = stands_one log x y ys (ltb x.0 y.0) s (stands_merge_in log x ys (s.0, s.1.1))

  pub stands_merge : (log : List E) (xs ys : List (ℕ × E)) → Stands log xs → Stands log ys → Stands log (merge xs ys)
  stands_merge log [] ys s t = t
  stands_merge log (x ∷ xs) ys s t = stands_merge_in log x (merge xs ys) (s.0, stands_merge log xs ys s.1 t)

  pub all_numbered : (k a low high : ℕ) (log : List E) (ps : List (ℕ × E)) → Rises low high ps → Stands log ps
      → ((x : ℕ) → times x ps ≡ once a (a + k) x)
      → length log ≡ a + k → ps ≡ numbered a (drop a log)
  all_numbered zero a low high log [] up s all long = ap (numbered a) (sym (drop_all log a (omega arith)))
  all_numbered zero a low high log (p ∷ ps) up s all long =
      let t = all p.0 in
      let z = once_none a p.0 in
      let here = one_if_same p.0 in
      absurd (omega arith)
  all_numbered (suc k) a low high log [] up s all long = let t = all a in let o = once_here a k in absurd (omega arith)
  all_numbered (suc k) a low high log (p ∷ ps) up s all long =
      let here = one_if_same p.0 in
      let t = all p.0 in
      let inside = once_inside a (a + suc k) p.0 (omega arith) in
      let low' = inside.0 in
      let y = all a in
      let o = once_here a k in
      let never : a < p.0 → ⊥ = λ gt. let z : times a (p ∷ ps) ≡ 0 =
      times_below (a + 1) high a (p ∷ ps) (omega arith) (omega arith, up.1, up.2) in omega arith in
      let is : p.0 ≡ a = omega arith in
      let rest = all_numbered k (a + 1) (p.0 + 1) high log ps up.2 s.1
      (λ x. let y = all x in let o = once_next a k x in let e : one_if x p.0 ≡ one_if x a =
      ap (one_if x) is in omega arith) (omega arith) in
      let there : drop a log ≡ p.1 ∷ drop (a + 1) log =
      drop_get log a p.1 (subst (λ n. slice_get log n ≡ Some p.1) is s.0) in
      (λ i. (is i, p.1) ∷ rest i) ∙ ap (numbered a) (sym there)
