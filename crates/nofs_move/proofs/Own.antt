-- Where a caller's own entries stand in a history.
use Rattle.std.proofs.Common.{◌≡◌, ℕ, zero, suc, ◌<◌, Bool, true, false, cond, List, [], ◌∷◌, length, map, filter, Some}
use Rattle.std.proofs.Common.{refl, ap, ◌∙◌, arith, eqb-true, eq-eqb}
use Rattle.std.specs.Prelude.{slice_get}
use Rattle.nofs_history.specs.Steps.{Made}
use Rattle.nofs_history.specs.declared.machine.history.Entry1.{Entry1}
use Rattle.nofs_history.specs.Callers.{done_of, is_by, steps_by}
use Rattle.nofs_move.specs.Own.{own_place}

-- the caller's step number k, and its entry in the history
pub record OwnEntry (c : ℕ) (H : List Entry1) (k : ℕ) (m : Made) : Type 0 where
  pub entry : Entry1
  pub there : slice_get H (own_place c H k) ≡ Some entry
  pub own : entry.caller ≡ c
  pub is : done_of entry ≡ m

pub own-entry : (c : ℕ) (H : List Entry1) (k : ℕ) (m : Made) → slice_get (steps_by c H) k ≡ Some m → OwnEntry c H k m
own-entry c [] k m at = absurd (cc at)
own-entry c (e ∷ es) zero m at = go (is_by c e) refl (λ h. own-entry c es zero m h) at
  where
    go : (b : Bool) → is_by c e ≡ b → (slice_get (steps_by c es) zero ≡ Some m → OwnEntry c es zero m)
        → slice_get (map done_of (cond b (e ∷ filter (is_by c) es) (filter (is_by c) es))) zero ≡ Some m
        → OwnEntry c (e ∷ es) zero m
    go true q more h = record { entry = e; there = rw q refl; own = eqb-true e.caller c q; is = cc h }
    go false q more h = let o = more h in record { entry = o.entry; there = rw q o.there; own = o.own; is = o.is }
own-entry c (e ∷ es) (suc k) m at = go (is_by c e) refl (λ h. own-entry c es k m h) (λ h. own-entry c es (suc k) m h) at
  where
    go : (b : Bool) → is_by c e ≡ b → (slice_get (steps_by c es) k ≡ Some m → OwnEntry c es k m)
        → (slice_get (steps_by c es) (suc k) ≡ Some m → OwnEntry c es (suc k) m)
        → slice_get (map done_of (cond b (e ∷ filter (is_by c) es) (filter (is_by c) es))) (suc k) ≡ Some m
        → OwnEntry c (e ∷ es) (suc k) m
    go true q here more h = let o = here h in record { entry = o.entry; there = rw q o.there; own = o.own; is = o.is }
    go false q here more h = let o = more h in record { entry = o.entry; there = rw q o.there; own = o.own; is = o.is }

-- an entry of the caller is one of its steps
pub record OwnStep (c : ℕ) (H : List Entry1) (p : ℕ) (e : Entry1) : Type 0 where
  pub number : ℕ
  pub place : own_place c H number ≡ p
  pub there : slice_get (steps_by c H) number ≡ Some (done_of e)

pub own-step : (c : ℕ) (H : List Entry1) (p : ℕ) (e : Entry1) → slice_get H p ≡ Some e → e.caller ≡ c → OwnStep c H p e
own-step c [] p e at own = absurd (cc at)
own-step c (x ∷ es) zero e at own =
    let same : x ≡ e = cc at in
    let q : is_by c x ≡ true = ap (is_by c) same ∙ eq-eqb e.caller c own in
    record { number = 0; place = rw q refl; there = rw q (ap (λ y. Some (done_of y)) same) }
own-step c (x ∷ es) (suc p) e at own = go (is_by c x) refl (own-step c es p e at own)
  where
    onward : (n : ℕ) → is_by c x ≡ false → own_place c (x ∷ es) n ≡ suc (own_place c es n)
    onward zero q = rw q refl
    onward (suc n) q = rw q refl

    go : (b : Bool) → is_by c x ≡ b → OwnStep c es p e → OwnStep c (x ∷ es) (suc p) e
    go true q o = record { number = suc o.number; place = rw q (ap suc o.place); there = rw q o.there }
    go false q o = record { number = o.number; place = onward o.number q ∙ ap suc o.place; there = rw q o.there }

-- places rise with the numbers of the steps
pub own-rises : (c : ℕ) (H : List Entry1) (j k : ℕ) → j < k → k < length (steps_by c H)
    → own_place c H j < own_place c H k
own-rises c [] j k lt within = absurd (omega (arith, within))
own-rises c (e ∷ es) j zero lt within = absurd (omega (arith, lt))
own-rises c (e ∷ es) zero (suc k) lt within = go (is_by c e) refl (λ h. own-rises c es zero (suc k) lt h) within
  where
    go : (b : Bool) → is_by c e ≡ b → (suc k < length (steps_by c es) → own_place c es zero < own_place c es (suc k))
        → suc k < length (map done_of (cond b (e ∷ filter (is_by c) es) (filter (is_by c) es)))
        → own_place c (e ∷ es) zero < own_place c (e ∷ es) (suc k)
    go true q more h = rw q (omega arith)
    go false q more h = rw q (let o = more h in omega (arith, o))
own-rises c (e ∷ es) (suc j) (suc k) lt within =
    go (is_by c e) refl (λ h. own-rises c es j k (omega (arith, lt)) h)
    (λ h. own-rises c es (suc j) (suc k) lt h) within
  where
    go : (b : Bool) → is_by c e ≡ b → (k < length (steps_by c es) → own_place c es j < own_place c es k)
        → (suc k < length (steps_by c es) → own_place c es (suc j) < own_place c es (suc k))
        → suc k < length (map done_of (cond b (e ∷ filter (is_by c) es) (filter (is_by c) es)))
        → own_place c (e ∷ es) (suc j) < own_place c (e ∷ es) (suc k)
    go true q here more h = rw q (let o = here (omega (arith, h)) in omega (arith, o))
    go false q here more h = rw q (let o = more h in omega (arith, o))
