-- Searches among the back links of a file, one step at a time.
use Rattle.std.proofs.Common.{◌≡◌, ℕ, zero, suc, ◌+◌, ◌<◌, ◌≤◌, Bool, true, false, ◌||◌, cond, List, [], ◌∷◌, length}
use Rattle.std.proofs.Common.{drop, get_or, Some, None, slice_set, refl, ap, ◌∙◌, arith}
use Rattle.std.specs.List.{list_any}
use Rattle.nofs_inode.specs.declared.inode.BackLink.{BackLink}
use Rattle.nofs_history.specs.Machine.{place_for_link, set_link}

-- the rest of a list, from its next item on
rest : {A : Type 0} → (xs : List A) (at : ℕ) (d : A) → at < length xs → drop at xs ≡ get_or xs at d ∷ drop (at + 1) xs
rest [] at d lt = absurd (omega (arith, lt))
rest (x ∷ xs) zero d lt = refl
rest (x ∷ xs) (suc at) d lt = let e : suc at + 1 ≡ suc (at + 1) = omega arith in rw e (rest xs at d (omega (arith, lt)))

past : {A : Type 0} → (xs : List A) (at : ℕ) → length xs ≤ at → drop at xs ≡ []
past [] zero le = refl
past [] (suc at) le = refl
past (x ∷ xs) zero le = absurd (omega (arith, le))
past (x ∷ xs) (suc at) le = past xs at (omega (arith, le))

pub any_none : (p : BackLink → Bool) (xs : List BackLink) (at : ℕ) → length xs ≤ at → list_any p (drop at xs) ≡ false
any_none p xs at le = let e = past xs at le in rw e refl

pub any_here : (p : BackLink → Bool) (xs : List BackLink) (at : ℕ) (d : BackLink) → at < length xs
    → p (get_or xs at d) ≡ true → list_any p (drop at xs) ≡ true
any_here p xs at d lt is = let e = rest xs at d lt in rw (e, is) refl

pub any_next : (p : BackLink → Bool) (xs : List BackLink) (at : ℕ) (d : BackLink) → at < length xs
    → p (get_or xs at d) ≡ false
    → list_any p (drop at xs) ≡ list_any p (drop (at + 1) xs)
any_next p xs at d lt isnt = let e = rest xs at d lt in
    ap (list_any p) e ∙ ap (λ (b : Bool). b || list_any p (drop (at + 1) xs)) isnt

pub place_none : (p : BackLink → Bool) (xs : List BackLink) (at : ℕ)
    → length xs ≤ at → place_for_link p (drop at xs) at ≡ None
place_none p xs at le = let e = past xs at le in ap (λ (l : List BackLink). place_for_link p l at) e

pub place_here : (p : BackLink → Bool) (xs : List BackLink) (at : ℕ) (d : BackLink) → at < length xs
    → p (get_or xs at d) ≡ true
    → place_for_link p (drop at xs) at ≡ Some at
place_here p xs at d lt is = let e = rest xs at d lt in ap (λ (l : List BackLink). place_for_link p l at) e
    ∙ ap (λ (b : Bool). cond b (Some at) (place_for_link p (drop (at + 1) xs) (suc at))) is

pub place_next : (p : BackLink → Bool) (xs : List BackLink) (at : ℕ) (d : BackLink) → at < length xs
    → p (get_or xs at d) ≡ false
    → place_for_link p (drop at xs) at ≡ place_for_link p (drop (at + 1) xs) (at + 1)
place_next p xs at d lt isnt =
    let e = rest xs at d lt in
    let n : suc at ≡ at + 1 = omega arith in
    ap (λ (l : List BackLink). place_for_link p l at) e
    ∙ ap (λ (b : Bool). cond b (Some at) (place_for_link p (drop (at + 1) xs) (suc at))) isnt
    ∙ ap (λ (m : ℕ). place_for_link p (drop (at + 1) xs) m) n

-- a link that is set
pub set-is : (xs : List BackLink) (b : ℕ) (link : BackLink) → slice_set xs b link ≡ set_link xs b link
set-is [] b link = refl
set-is (x ∷ xs) zero link = refl
set-is (x ∷ xs) (suc b) link = ap (λ (l : List BackLink). x ∷ l) (set-is xs b link)
