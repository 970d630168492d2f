-- Numbers are counted one after the other.
use Rattle.std.proofs.Common.{◌≡◌, ℕ, suc, ◌+◌, ◌≤◌, Bool, true, false, cond, arith, refl, sym, ap, ◌∙◌}
use mir.Val.{bool_byte}
use Rattle.nofs_history.specs.Search.{count_below}

-- so many of the first numbers pass
pub record Counted (test : ℕ → Bool) (n used : ℕ) : Type 0 where
  pub value : used ≡ count_below test n
  pub few : used ≤ n

pub count_begins : (test : ℕ → Bool) → Counted test 0 0
unfolding count_below
count_begins test = record { value = refl; few = omega arith }

one-more : (b : Bool) (n : ℕ) → cond b (1 + n) n ≡ n + bool_byte b
one-more true n = omega arith
one-more false n = omega arith

one-most : (b : Bool) → bool_byte b ≤ 1
one-most true = omega arith
one-most false = omega arith

count-more : (test : ℕ → Bool) (n : ℕ) (b : Bool) → b ≡ test n
    → count_below test (suc n) ≡ count_below test n + bool_byte b
unfolding count_below
count-more test n b e =
    ap (λ t. cond t (1 + count_below test n) (count_below test n)) (sym e) ∙ one-more b (count_below test n)

-- with the next number
pub count_goes : (test : ℕ → Bool) (n used : ℕ) (b : Bool) (one : ℕ) → Counted test n used → b ≡ test n
    → one ≡ bool_byte b → Counted test (n + 1) (used + one)
count_goes test n used b one c passes is =
    let next : count_below test (n + 1) ≡ count_below test (suc n) = ap (count_below test) (omega arith) in
    let more = count-more test n b passes in
    let most = one-most b in
    let v = c.value in
    let f = c.few in
    record { value = omega (arith, v, next, more, is); few = omega (arith, f, most, is) }
