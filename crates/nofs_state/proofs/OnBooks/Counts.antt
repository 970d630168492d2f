-- The counts of the maps are those of the machine.
use Rattle.std.proofs.Common.{◌≡◌, ℕ, zero, suc, ◌+◌, ◌-◌, ◌<◌, ◌≤◌, Bool, true, false, cond, not, leb, ltb, le-leb}
use Rattle.std.proofs.Common.{List, [], ◌∷◌, length, Option, Some}
use Rattle.std.proofs.Common.{None, inl, inr, refl, sym, ap, ◌∙◌, subst, arith, lt-ltb}
use Rattle.std.specs.Prelude.{unwrap_or}
use Rattle.std.specs.Prelude.{IfSome}
use Rattle.std.proofs.lemmas.Bool.{cases_lt}
use Rattle.std.proofs.lemmas.List.Sums.{sum_by-cons}
use Rattle.nofs_bits.specs.Bits.{NoneSet, count_set, is_set}
use Rattle.nofs_history.specs.Search.{count_below, least_from}
use Rattle.nofs_history.specs.World.{World, is_free_block, is_free_inode, free_blocks, free_inodes, unverified_blocks}
use Rattle.nofs_history.specs.World.{unverified_inodes, next_block}
use Rattle.nofs_history.specs.World.{next_inode}
use Rattle.nofs_state.specs.Books.Maps.{IsSafe, Says, knows_block, knows_inode}
use Rattle.nofs_state.specs.declared.books.maps.Books.{Books}
use Rattle.nofs_disk.specs.Disk.{DiskState}

abbrev one : Bool → ℕ
one b = cond b 1 0

add-one : (b : Bool) (n : ℕ) → cond b (1 + n) n ≡ one b + n
add-one true n = refl
add-one false n = omega arith

from-front : (test : ℕ → Bool) (n : ℕ) → count_below test (suc n) ≡ one (test 0) + count_below (λ m. test (suc m)) n
unfolding count_below
from-front test zero = add-one (test 0) 0
from-front test (suc n) =
    let deep = from-front test n in
    let a = add-one (test (suc n)) (count_below test (suc n)) in
    let b = add-one (test (suc n)) (count_below (λ m. test (suc m)) n) in
    a ∙ (let q : one (test (suc n)) + count_below test (suc n)
    ≡ one (test 0) + (one (test (suc n)) + count_below (λ m. test (suc m)) n) =
    omega (arith, deep) in q) ∙ ap (λ (m : ℕ). one (test 0) + m) (sym b)

pub count-is : (bits : List Bool) → count_set bits ≡ count_below (λ n. is_set bits n) (length bits)
unfolding count_below
count-is [] = refl
count-is (b ∷ bits) = sum_by-cons (λ (t : Bool). cond t 1 0) b bits ∙ ap (λ (n : ℕ). one b + n) (count-is bits)
    ∙ sym (from-front (λ n. is_set (b ∷ bits) n) (length bits))

pub count-same : (P Q : ℕ → Bool) (n : ℕ) → ((m : ℕ) → m < n → P m ≡ Q m) → count_below P n ≡ count_below Q n
unfolding count_below
count-same P Q zero same = refl
count-same P Q (suc n) same =
    λ j. cond (same n (omega arith) j) (1 + count-same P Q n (λ m lt. same m (omega (arith, lt))) j)
    (count-same P Q n (λ m lt. same m (omega (arith, lt))) j)

pub least-is : (test : ℕ → Bool) (at n f : ℕ)
    → at ≤ f → f < at + n → test f ≡ true → ((m : ℕ) → at ≤ m → m < f → test m ≡ false)
    → least_from test at n ≡ Some f
unfolding least_from
least-is test at zero f low high e none = absurd (omega (arith, low, high))
least-is test at (suc n) f low high e none =
    go (λ lt. least-is test (suc at) n f (omega (arith, lt)) (omega (arith, high)) e
    (λ m a b. none m (omega (arith, a)) b)) (test at) refl
  where
    go : (at < f → least_from test (suc at) n ≡ Some f)
        → (b : Bool) → test at ≡ b → cond b (Some at) (least_from test (suc at) n) ≡ Some f
    go deep true t = elim (cases_lt at f) [
      | inl lt ↦ absurd (let z = none at (omega arith) lt in cc (t, z))
      | inr ge ↦ (let s : at ≡ f = omega (arith, low, ge) in ap Some s)
    ]
    go deep false t = elim (cases_lt at f) [
      | inl lt ↦ deep lt
      | inr ge ↦ absurd (let s : at ≡ f = omega (arith, low, ge) in
          let z : test f ≡ false = ap test (sym s) ∙ t in cc (e, z))
    ]

pub least-none : (test : ℕ → Bool) (at n : ℕ) → ((m : ℕ) → at ≤ m → m < at + n → test m ≡ false)
    → least_from test at n ≡ None
unfolding least_from
least-none test at zero none = refl
least-none test at (suc n) none = rw (none at (omega arith) (omega arith))
    (least-none test (suc at) n (λ m a b. none m (omega (arith, a)) (omega (arith, b))))

-- the counts of blocks
pub free-count : (d : DiskState) (k : Books) (W : World) → IsSafe d k → Says k W
    → count_set k.free_blocks ≡ free_blocks W
free-count d k W safe says = count-is k.free_blocks
    ∙ count-same (λ n. is_set k.free_blocks n) (λ q. is_free_block W q) (length k.free_blocks)
    (λ m lt. says.free_blocks m (let e = safe.free_blocks in omega (arith, lt, e)))
    ∙ ap (count_below (λ q. is_free_block W q)) (safe.free_blocks ∙ sym says.blocks)

unknown-is : (k : Books) (W : World) → Says k W
    → (q : ℕ) → q < k.at.blocks → is_set k.unknown_blocks q ≡ not (W.known_blocks q)
unknown-is k W says q lt = (let t : ltb q k.at.blocks ≡ true = lt-ltb q k.at.blocks lt in
    let n : knows_block k q ≡ not (is_set k.unknown_blocks q) =
    rw t refl in sym (ap not (says.known_blocks q ∙ n) ∙ twice (is_set k.unknown_blocks q)))
  where
    twice : (b : Bool) → not (not b) ≡ b
    twice true = refl
    twice false = refl

pub unknown-count : (d : DiskState) (k : Books) (W : World) → IsSafe d k → Says k W
    → count_set k.unknown_blocks ≡ unverified_blocks W
unknown-count d k W safe says = count-is k.unknown_blocks
    ∙ count-same (λ n. is_set k.unknown_blocks n) (λ q. not (W.known_blocks q))
    (length k.unknown_blocks) (λ m lt. unknown-is k W says m (let e = safe.unknown_blocks in omega (arith, lt, e)))
    ∙ ap (count_below (λ q. not (W.known_blocks q))) (safe.unknown_blocks ∙ sym says.blocks)

-- the least unknown block, 0 where there is none
pub next-is : (k : Books) (W : World) → length k.unknown_blocks ≡ k.at.blocks → Says k W → (o : Option ℕ)
    → IfSome o (λ at. (0 ≤ at) × (at < length k.unknown_blocks) × (is_set k.unknown_blocks at ≡ true))
    → IfSome o (λ at. NoneSet k.unknown_blocks 0 at)
    → (o ≡ None → NoneSet k.unknown_blocks 0 (length k.unknown_blocks)) → unwrap_or o 0 ≡ next_block W
next-is k W fits says None found least none =
    sym (ap (λ (q : Option ℕ). unwrap_or q 0) (least-none (λ q. not (W.known_blocks q)) 0 W.blocks
    (λ m a lt. let low : m < k.at.blocks = (let e = says.blocks in omega (arith, lt, e)) in
    sym (unknown-is k W says m low) ∙ none refl m a (let e = fits in omega (arith, low, e)))))
next-is k W fits says (Some f) found least none =
    let low : f < k.at.blocks = (let e = fits in let h = found.1 in omega (arith, h, e)) in
    sym (ap (λ (q : Option ℕ). unwrap_or q 0)
    (least-is (λ q. not (W.known_blocks q)) 0 W.blocks f found.0 (let e = says.blocks in omega (arith, low, e))
    (sym (unknown-is k W says f low) ∙ found.2)
    (λ m a lt. sym (unknown-is k W says m (omega (arith, lt, low))) ∙ least m a lt)))

nothing : (n : ℕ) → count_below (λ m. false) n ≡ 0
unfolding count_below
nothing zero = refl
nothing (suc n) = nothing n

at-least : (test : ℕ → Bool) (at n : ℕ) → at < n → test at ≡ true → 1 ≤ count_below test n
unfolding count_below
at-least test at zero lt e = absurd (omega (arith, lt))
at-least test at (suc n) lt e = elim (cases_lt at n) [
  | inl low ↦ more (test n) (count_below test n) (at-least test at n low e)
  | inr high ↦
      let s : n ≡ at = omega (arith, lt, high) in
      let t : test n ≡ true = ap test s ∙ e in rw t (omega arith)
]
  where
    more : (b : Bool) (m : ℕ) → 1 ≤ m → 1 ≤ cond b (1 + m) m
    more true m h = omega arith
    more false m h = h

-- no block is free
pub none-free : (bits : List Bool) → NoneSet bits 0 (length bits) → count_set bits ≡ 0
none-free bits none = count-is bits ∙ zeros (length bits) (λ m lt. none m (omega arith) lt)
  where
    zeros : (n : ℕ) → ((m : ℕ) → m < n → is_set bits m ≡ false) → count_below (λ m. is_set bits m) n ≡ 0
    zeros n h = count-same (λ m. is_set bits m) (λ m. false) n h ∙ never n
      where
        never : (n : ℕ) → count_below (λ m. false) n ≡ 0
        never n = nothing n

pub some-free : (bits : List Bool) (at : ℕ) → at < length bits → is_set bits at ≡ true → 1 ≤ count_set bits
some-free bits at low e = let c = count-is bits in let h = below (length bits) low in omega (arith, c, h)
  where
    below : (n : ℕ) → at < n → 1 ≤ count_below (λ m. is_set bits m) n
    below n lt = at-least (λ m. is_set bits m) at n lt e

-- the counts of inodes
pub free-inodes-count : (d : DiskState) (k : Books) (W : World) → IsSafe d k → Says k W
    → count_set k.free_inodes ≡ free_inodes W
free-inodes-count d k W safe says = count-is k.free_inodes
    ∙ count-same (λ n. is_set k.free_inodes n) (λ n. is_free_inode W (suc n)) (length k.free_inodes) (λ m lt.
    let back : suc m - 1 ≡ m = omega arith in
    subst (λ (q : ℕ). is_set k.free_inodes q ≡ is_free_inode W (suc m)) back
    (says.free_inodes (suc m) (omega arith) (let e = safe.free_inodes in omega (arith, lt, e))))
    ∙ ap (count_below (λ n. is_free_inode W (suc n))) (safe.free_inodes ∙ sym says.inodes)

unknown-inode-is : (k : Books) (W : World) → Says k W
    → (i : ℕ) → 1 ≤ i → i ≤ k.at.inodes → is_set k.unknown_inodes (i - 1) ≡ not (W.known_inodes i)
unknown-inode-is k W says i low high =
    let a : leb 1 i ≡ true = le-leb 1 i low in
    let b : leb i k.at.inodes ≡ true = le-leb i k.at.inodes high in
    let n : knows_inode k i ≡ not (is_set k.unknown_inodes (i - 1)) = rw (a, b) refl in
    sym (ap not (says.known_inodes i ∙ n) ∙ twice (is_set k.unknown_inodes (i - 1)))
  where
    twice : (b : Bool) → not (not b) ≡ b
    twice true = refl
    twice false = refl

pub unknown-inodes-count : (d : DiskState) (k : Books) (W : World) → IsSafe d k → Says k W
    → count_set k.unknown_inodes ≡ unverified_inodes W
unknown-inodes-count d k W safe says = count-is k.unknown_inodes
    ∙ count-same (λ n. is_set k.unknown_inodes n) (λ n. not (W.known_inodes (suc n))) (length k.unknown_inodes) (λ m lt.
    let back : suc m - 1 ≡ m = omega arith in
    subst (λ (q : ℕ). is_set k.unknown_inodes q ≡ not (W.known_inodes (suc m))) back
    (unknown-inode-is k W says (suc m) (omega arith) (let e = safe.unknown_inodes in omega (arith, lt, e))))
    ∙ ap (count_below (λ n. not (W.known_inodes (suc n)))) (safe.unknown_inodes ∙ sym says.inodes)

-- no inode is unknown
pub no-next-inode : (k : Books) (W : World) → length k.unknown_inodes ≡ k.at.inodes → Says k W
    → NoneSet k.unknown_inodes 0 (length k.unknown_inodes)
    → 0 ≡ next_inode W
no-next-inode k W fits says none =
    sym (ap (λ (q : Option ℕ). unwrap_or q 0) (least-none (λ i. not (W.known_inodes i)) 1 W.inodes (λ m a lt.
    let low : m ≤ k.at.inodes = (let e = says.inodes in omega (arith, lt, e)) in
    sym (unknown-inode-is k W says m a low) ∙ none (m - 1) (omega arith) (let e = fits in omega (arith, low, e, a)))))

-- the least unknown inode
pub next-inode-is : (k : Books) (W : World) → length k.unknown_inodes ≡ k.at.inodes → Says k W
    → (f : ℕ) → f < length k.unknown_inodes
    → is_set k.unknown_inodes f ≡ true → NoneSet k.unknown_inodes 0 f → 1 + f ≡ next_inode W
next-inode-is k W fits says f low found least =
    let here : 1 + f ≤ k.at.inodes = (let e = fits in omega (arith, low, e)) in
    let back : f ≡ 1 + f - 1 = omega arith in
    sym (ap (λ (q : Option ℕ). unwrap_or q 0)
    (least-is (λ i. not (W.known_inodes i)) 1 W.inodes (1 + f) (omega arith) (let e =
    says.inodes in omega (arith, here, e))
    (sym (unknown-inode-is k W says (1 + f) (omega arith) here)
    ∙ subst (λ (q : ℕ). is_set k.unknown_inodes q ≡ true) back found)
    (λ m a lt. sym (unknown-inode-is k W says m a (omega (arith, lt, here)))
    ∙ least (m - 1) (omega arith) (omega (arith, lt, a)))))
