-- How many blocks are free, by those that were found one after another.
use Rattle.std.proofs.Common.{◌≡◌, ℕ, zero, suc, ◌+◌, ◌<◌, ◌≤◌, inl, inr, Bool, true, false, cond, List, length, refl}
use Rattle.std.proofs.Common.{sym, ap, subst, arith}
use Rattle.std.proofs.lemmas.Bool.{cases_lt}
use Rattle.nofs_bits.specs.Bits.{NoneSet, count_set, is_set}
use Rattle.nofs_history.specs.Search.{count_below}
use Rattle.nofs_state.proofs.OnBooks.Counts.{count-is}

-- where none is set from a place on, none is counted from there
count-cut : (test : ℕ → Bool) (at n : ℕ) → at ≤ n → ((m : ℕ) → at ≤ m → m < n → test m ≡ false)
    → count_below test n ≡ count_below test at
unfolding count_below
count-cut test at zero le none = ap (count_below test) (let e : 0 ≡ at = omega (arith, le) in e)
count-cut test at (suc n) le none = elim (cases_lt n at) [
  | inl lt ↦ ap (count_below test) (let e : suc n ≡ at = omega (arith, le, lt) in e)
  | inr ge ↦ (let f : test n ≡ false = none n ge (omega arith) in
      rw f (count-cut test at n ge (λ m a b. none m a (omega (arith, b)))))
]

count-here : (test : ℕ → Bool) (at : ℕ) → test at ≡ true → count_below test (suc at) ≡ 1 + count_below test at
unfolding count_below
count-here test at e = rw e refl

count-more : (test : ℕ → Bool) (a n : ℕ) → a ≤ n → count_below test a ≤ count_below test n
unfolding count_below
count-more test a zero le = (let e : a ≡ 0 = omega (arith, le) in
    subst (λ (q : ℕ). count_below test q ≤ count_below test 0) (sym e) (omega arith))
count-more test a (suc n) le = elim (cases_lt n a) [
  | inl lt ↦ (let e : a ≡ suc n = omega (arith, le, lt) in
      subst (λ (q : ℕ). count_below test q ≤ count_below test (suc n)) (sym e) (omega arith))
  | inr ge ↦ grows (test n) (count_below test n) (count_below test a) (count-more test a n ge)
]
  where
    grows : (b : Bool) (m k : ℕ) → k ≤ m → k ≤ cond b (1 + m) m
    grows true m k h = omega (arith, h)
    grows false m k h = h

module _ (bits : List Bool) where
  test : ℕ → Bool
  test n = is_set bits n

  -- none before a place
  none-below : (b : ℕ) → NoneSet bits 0 b → count_below (λ n. is_set bits n) b ≡ 0
  unfolding count_below
  none-below b none = count-cut (λ n. is_set bits n) 0 b (omega arith) (λ m a lt. none m a lt)

  -- the only one
  pub one-free : (b : ℕ) → b < length bits → is_set bits b ≡ true → NoneSet bits 0 b
      → NoneSet bits (b + 1) (length bits) → count_set bits ≡ 1
  one-free b low set before after =
      let c = count-is bits in
      let z = none-below b before in
      let h = count-here (λ n. is_set bits n) b set in
      let t = count-cut (λ n. is_set bits n) (suc b) (length bits) (omega (arith, low))
      (λ m a lt. after m (omega (arith, a)) lt) in
      omega (arith, c, z, h, t)

  -- two of them
  pub two-free : (b e : ℕ) → b < e → e < length bits → is_set bits b ≡ true → is_set bits e ≡ true → 2 ≤ count_set bits
  two-free b e lt low set set-e =
      let c = count-is bits in
      let h = count-here (λ n. is_set bits n) b set in
      let m = count-more (λ n. is_set bits n) (suc b) e (omega (arith, lt)) in
      let w = count-here (λ n. is_set bits n) e set-e in
      let t = count-more (λ n. is_set bits n) (suc e) (length bits) (omega (arith, low)) in
      omega (arith, c, h, m, w, t)

  -- two of them alone
  pub just-two : (b e : ℕ) → b < e → e < length bits → is_set bits b ≡ true → is_set bits e ≡ true → NoneSet bits 0 b
      → NoneSet bits (b + 1) e
      → NoneSet bits (e + 1) (length bits) → count_set bits ≡ 2
  just-two b e lt low set set-e before between after =
      let c = count-is bits in
      let z = none-below b before in
      let h = count-here (λ n. is_set bits n) b set in
      let m = count-cut (λ n. is_set bits n) (suc b) e (omega (arith, lt)) (λ q a l. between q (omega (arith, a)) l) in
      let w = count-here (λ n. is_set bits n) e set-e in
      let t = count-cut (λ n. is_set bits n) (suc e) (length bits) (omega (arith, low))
      (λ q a l. after q (omega (arith, a)) l) in
      omega (arith, c, z, h, m, w, t)

  -- three of them
  pub three-free : (b e d : ℕ) → b < e → e < d → d < length bits
      → is_set bits b ≡ true → is_set bits e ≡ true → is_set bits d ≡ true → 3 ≤ count_set bits
  three-free b e d lt lt-d low set set-e set-d =
      let c = count-is bits in
      let h = count-here (λ n. is_set bits n) b set in
      let m = count-more (λ n. is_set bits n) (suc b) e (omega (arith, lt)) in
      let w = count-here (λ n. is_set bits n) e set-e in
      let q = count-more (λ n. is_set bits n) (suc e) d (omega (arith, lt-d)) in
      let v = count-here (λ n. is_set bits n) d set-d in
      let t = count-more (λ n. is_set bits n) (suc d) (length bits) (omega (arith, low)) in
      omega (arith, c, h, m, w, q, v, t)
