-- The least number that passes a test, as more and more numbers are tested.
use Rattle.std.proofs.Common.{◌≡◌, ℕ, zero, suc, ◌+◌, ◌-◌, ◌<◌, ◌≤◌, Bool, true, false, cond, Option, Some, None, refl}
use Rattle.std.proofs.Common.{sym, ap, ◌∙◌, arith}
use Rattle.nofs_history.specs.Search.{least_from}
use Rattle.nofs_names.specs.Searches.Slots.{first_or, where_true}
use Rattle.nofs_state.proofs.OnBooks.Counts.{least-none}

pub least-one : (test : ℕ → Bool) (at : ℕ) → least_from test at 1 ≡ where_true (test at) at
unfolding least_from
least-one test at = refl

pub least-more : (test : ℕ → Bool) (at n m : ℕ)
    → least_from test at (n + m) ≡ first_or (least_from test at n) (least_from test (at + n) m)
unfolding least_from
least-more test at zero m = let e : at + 0 ≡ at = omega arith in let f : 0 + m ≡ m =
    omega arith in (λ j. least_from test at (f j)) ∙ (λ j. least_from test (sym e j) m)
least-more test at (suc n) m =
    let e : suc n + m ≡ suc (n + m) = omega arith in
    let f : suc at + n ≡ at + suc n = omega arith in
    let deep : least_from test (suc at) (n + m) ≡ first_or (least_from test (suc at) n)
    (least_from test (at + suc n) m) =
    least-more test (suc at) n m ∙ (λ j. first_or (least_from test (suc at) n) (least_from test (f j) m)) in
    (λ j. least_from test at (e j)) ∙ go (test at) deep
  where
    go : (b : Bool)
        → least_from test (suc at) (n + m) ≡ first_or (least_from test (suc at) n) (least_from test (at + suc n) m)
        → cond b (Some at) (least_from test (suc at) (n + m)) ≡ first_or (cond b (Some at) (least_from test (suc at) n))
        (least_from test (at + suc n) m)
    go true deep = refl
    go false deep = deep

-- one more number was tested
pub least-next : (test : ℕ → Bool) (n : ℕ)
    → least_from test 0 (n + 1) ≡ first_or (least_from test 0 n) (where_true (test n) n)
least-next test n = least-more test 0 n 1
    ∙ (let z : 0 + n ≡ n = omega arith in (λ j. first_or (least_from test 0 n) (least_from test (z j) 1)))
    ∙ ap (first_or (least_from test 0 n)) (least-one test n)

pub or-none : (o : Option ℕ) → first_or o None ≡ o
or-none None = refl
or-none (Some x) = refl

pub least-skip : (test : ℕ → Bool) (n m : ℕ) → ((k : ℕ) → n ≤ k → k < n + m → test k ≡ false)
    → least_from test 0 (n + m) ≡ least_from test 0 n
least-skip test n m none = least-more test 0 n m
    ∙ (let z : 0 + n ≡ n = omega arith in (λ j. first_or (least_from test 0 n) (least_from test (z j) m)))
    ∙ ap (first_or (least_from test 0 n)) (least-none test n m none) ∙ or-none (least_from test 0 n)

-- the first that passes is the least
pub least-found : (test : ℕ → Bool) (k n : ℕ)
    → least_from test 0 k ≡ None → test k ≡ true → k < n → least_from test 0 n ≡ Some k
least-found test k n none here low =
    let e : n ≡ (k + 1) + (n - (k + 1)) = omega (arith, low) in
    let one : least_from test 0 (k + 1) ≡ Some k = least-next test k ∙ rw (none, here) refl in
    (λ j. least_from test 0 (e j)) ∙ least-more test 0 (k + 1) (n - (k + 1)) ∙ rw one refl

-- the first from a number on
pub least-first : (test : ℕ → Bool) (at n k : ℕ) → ((l : ℕ) → at ≤ l → l < k → test l ≡ false)
    → test k ≡ true → at ≤ k → k < at + n
    → least_from test at n ≡ Some k
least-first test at n k none here low high =
    let size : n ≡ (k - at) + (1 + (n - (k - at) - 1)) = omega (arith, low, high) in
    let top : at + (k - at) ≡ k = omega (arith, low) in
    (λ j. least_from test at (size j)) ∙ least-more test at (k - at) (1 + (n - (k - at) - 1))
    ∙ (λ j. first_or (least-none test at (k - at) (λ l a b. none l a (omega (arith, b, top))) j)
    (least_from test (top j) (1 + (n - (k - at) - 1))))
    ∙ least-more test k 1 (n - (k - at) - 1)
    ∙ (λ j. first_or (least-one test k j) (least_from test (k + 1) (n - (k - at) - 1))) ∙ rw here refl
