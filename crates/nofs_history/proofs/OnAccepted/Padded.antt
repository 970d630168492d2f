-- Lists whose places behind the last one count as empty: an empty place more, a place that is set, a cut.
use Rattle.std.proofs.Common.{ne_eqb, ◌≡◌, ℕ, zero, suc, ◌<◌, ◌≤◌, Bool, true, false, cond, eqb, ltb, List, [], ◌∷◌}
use Rattle.std.proofs.Common.{◌++◌, length, take, Option, Some, None}
use Rattle.std.proofs.Common.{slice_get, slice_set, ◌-◌, refl, ap, ◌∙◌, arith}
use Rattle.std.proofs.Math.Dec.{eqb-suc-suc, eqb-suc-zero}
use Rattle.nofs_model.specs.Files.{FileState}
use Rattle.nofs_model.specs.declared.image.value.Value.TheVariants as value
use Rattle.nofs_history.specs.Accepted.Files.{value_now, value_at, file_of, file_at}
use Rattle.nofs_history.specs.declared.accepted.files.file.ValueNow.{ValueNow}
use Rattle.nofs_history.specs.declared.accepted.files.file.ValueNow.TheVariants as now
use Rattle.nofs_history.specs.declared.accepted.files.file.FileNow.{FileNow}

pub value-push : (xs : List ValueNow) (k : ℕ) → value_at (slice_get (xs ++ now.Hole ∷ []) k) ≡ value_at (slice_get xs k)
value-push [] zero = refl
value-push [] (suc k) = refl
value-push (x ∷ xs) zero = refl
value-push (x ∷ xs) (suc k) = value-push xs k

pub file-push : (xs : List (Option FileNow)) (k : ℕ)
    → file_at (slice_get (xs ++ None ∷ []) k) ≡ file_at (slice_get xs k)
file-push [] zero = refl
file-push [] (suc k) = refl
file-push (x ∷ xs) zero = refl
file-push (x ∷ xs) (suc k) = file-push xs k

pub value-set : (xs : List ValueNow) (n : ℕ) (v : ValueNow) (k : ℕ) → n < length xs
    → value_at (slice_get (slice_set xs n v) k)
    ≡ cond (eqb n k) (value_now v) (value_at (slice_get xs k))
value-set [] n v k lt = absurd (omega (arith, lt))
value-set (x ∷ xs) zero v zero lt = refl
value-set (x ∷ xs) zero v (suc k) lt = let n = ne_eqb 0 (suc k) (λ q. omega (arith, q)) in rw n refl
value-set (x ∷ xs) (suc n) v zero lt = let m = ne_eqb (suc n) 0 (λ q. omega (arith, q)) in rw m refl
value-set (x ∷ xs) (suc n) v (suc k) lt = let e = eqb-suc-suc n k in rw e (value-set xs n v k (omega (arith, lt)))

pub file-set : (xs : List (Option FileNow)) (n : ℕ) (o : Option FileNow) (k : ℕ) → n < length xs
    → file_at (slice_get (slice_set xs n o) k) ≡ cond (eqb n k) (file_at (Some o)) (file_at (slice_get xs k))
file-set [] n o k lt = absurd (omega (arith, lt))
file-set (x ∷ xs) zero o zero lt = refl
file-set (x ∷ xs) zero o (suc k) lt = let n = ne_eqb 0 (suc k) (λ q. omega (arith, q)) in rw n refl
file-set (x ∷ xs) (suc n) o zero lt = let m = ne_eqb (suc n) 0 (λ q. omega (arith, q)) in rw m refl
file-set (x ∷ xs) (suc n) o (suc k) lt = let e = eqb-suc-suc n k in rw e (file-set xs n o k (omega (arith, lt)))

-- behind a cut all are holes
pub value-take : (xs : List ValueNow) (n k : ℕ)
    → value_at (slice_get (take n xs) k) ≡ cond (ltb k n) (value_at (slice_get xs k)) value.Hole
value-take xs zero k = let n : ltb k 0 ≡ false = grind arith in rw n refl
value-take [] (suc n) k = go (ltb k (suc n))
  where
    go : (b : Bool) → value.Hole ≡ cond b value.Hole value.Hole
    go true = refl
    go false = refl
value-take (x ∷ xs) (suc n) zero = let e : ltb 0 (suc n) ≡ true = grind arith in rw e refl
value-take (x ∷ xs) (suc n) (suc k) = next (ltb k n) refl (value-take xs n k)
  where
    next : (b : Bool)
        → ltb k n ≡ b → value_at (slice_get (take n xs) k) ≡ cond (ltb k n) (value_at (slice_get xs k)) value.Hole
        → value_at (slice_get (take n xs) k) ≡ cond (ltb (suc k) (suc n)) (value_at (slice_get xs k)) value.Hole
    next true e r = let s : ltb (suc k) (suc n) ≡ true = grind (arith, e) in
        rw s (r ∙ ap (λ (b : Bool). cond b (value_at (slice_get xs k)) value.Hole) e)
    next false e r = let s : ltb (suc k) (suc n) ≡ false = grind (arith, e) in
        rw s (r ∙ ap (λ (b : Bool). cond b (value_at (slice_get xs k)) value.Hole) e)

-- a file that is put at an inode, counted from 1
pub put-at : (xs ys : List (Option FileNow)) (n : ℕ) (f : FileNow)
    → ((k : ℕ) → file_at (slice_get ys k) ≡ file_at (slice_get xs k)) → 0 < n → n ≤ length ys
    → (i : ℕ) → cond (eqb i 0) None (file_at (slice_get (slice_set ys (n - 1) (Some f)) (i - 1)))
    ≡ cond (eqb n i) (Some (file_of f)) (cond (eqb i 0) None (file_at (slice_get xs (i - 1))))
put-at xs ys zero f same pos le i = absurd (omega (arith, pos))
put-at xs ys (suc m) f same pos le zero = let e = eqb-suc-zero m in rw e refl
put-at xs ys (suc m) f same pos le (suc j) =
    let z = eqb-suc-zero j in
    let s = eqb-suc-suc m j in
    let a : suc m - 1 ≡ m = omega arith in
    let b : suc j - 1 ≡ j = omega arith in
    rw (z, s, a, b) (file-set ys m (Some f) j (omega (arith, le))
    ∙ ap (λ (o : Option FileState). cond (eqb m j) (Some (file_of f)) o) (same j))
