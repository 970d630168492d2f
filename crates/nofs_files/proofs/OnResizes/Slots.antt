-- Which slots are cut, by their places and by their numbers.
use Rattle.std.proofs.Common.{◌≡◌, ℕ, ◌+◌, ◌-◌, ◌*◌, ◌/◌, ◌^◌, ◌<◌, ◌≤◌, ◌⊎◌, inl, inr, Bool, true, false, cond}
use Rattle.std.proofs.Common.{eqb-true, leb, leb-true, ◌||◌, refl, sym, ap, ◌∙◌, arith}
use Rattle.std.proofs.lemmas.Bool.{cases_lt, le-leb}
use Rattle.std.proofs.lemmas.Bool.Decides.{nat_tests}
use Rattle.nofs_ptrs.specs.Paths.{slot_limit, Path, InRecord, Under, path_of, IsSlot}
use Rattle.nofs_model.proofs.OnSlots.Paths.{path-record, path-child}
use Rattle.nofs_crashlaw.specs.Files.Resizes.{is_cut}
use Rattle.nofs_files.specs.Resizes.{first_cut, last_child}

pub lt-leb : (m a : ℕ) → a < m → leb m a ≡ false
lt-leb m a h = grind (arith, nat_tests)

pub leb-lt : (m a : ℕ) → leb m a ≡ false → a < m
leb-lt m a e = elim (cases_lt a m) [ inl low ↦ low | inr high ↦ absurd (let t = le-leb m a high in cc (t, e)) ]

pub or-parts : (a b : Bool) → (a || b) ≡ false → (a ≡ false) × (b ≡ false)
or-parts true b e = cc e
or-parts false b e = (refl, e)

pub or-one : (a b : Bool) → (a || b) ≡ true → (a ≡ true) ⊎ (b ≡ true)
or-one true b e = inl refl
or-one false b e = inr e

or-right : (a b : Bool) → b ≡ true → (a || b) ≡ true
or-right true b e = refl
or-right false b e = e

pub neither : (a b : Bool) → a ≡ false → b ≡ false → (a || b) ≡ false
neither true b ea eb = cc ea
neither false b ea eb = eb

-- which slots have others under them
pub above-cases : (b : Path) (n : ℕ) → IsSlot (Under b n)
    → (b ≡ InRecord 8) ⊎ ((b ≡ InRecord 9) ⊎ ((j : ℕ) × (j < 64) × (b ≡ Under (InRecord 9) j)))
above-cases (InRecord q) n s = elim (cases_lt q 9) [
  | inl lt ↦ (let low = leb-true 8 q s.0 in let e : q ≡ 8 = omega (arith, low, lt) in inl (ap InRecord e))
  | inr le ↦ (let high = s.2 in let e : q ≡ 9 = omega (arith, le, high) in inr (inl (ap InRecord e)))
]
above-cases (Under (InRecord q) j) n s = let e : q ≡ 9 = eqb-true q 9 s.0 in
    inr (inr (j, s.2.1, ap (λ (t : ℕ). Under (InRecord t) j) e))
above-cases (Under (Under a j) q) n s = cc s.0

-- a slot stays, and those under it are cut from a place on
pub record Inside (m : ℕ) (a : Path) (from : ℕ) : Type 0 where
  pub stays : is_cut m a ≡ false
  pub before : (n : ℕ) → n < 64 → n < from → is_cut m (Under a n) ≡ false
  pub behind : (n : ℕ) → n < 64 → from ≤ n → is_cut m (Under a n) ≡ true

pub leaf-inside : (m : ℕ) → 8 < m → m ≤ 72 → Inside m (InRecord 8) (m - 8)
leaf-inside m low high = record {
  stays = lt-leb m 8 low;
  before = λ n lt h. neither (leb m 8) (leb m (8 + n)) (lt-leb m 8 low) (lt-leb m (8 + n) (omega (arith, low, h)));
  behind = λ n lt h. or-right (leb m 8) (leb m (8 + n)) (le-leb m (8 + n) (omega (arith, low, h)));
}

pub top-inside : (m : ℕ) → 72 < m → Inside m (InRecord 9) (last_child m + 1)
top-inside m low = record {
  stays = lt-leb m 72 low;
  before = λ n lt h. neither (leb m 72) (leb m (72 + 64 * n)) (lt-leb m 72 low)
      (lt-leb m (72 + 64 * n) (omega (arith, low, h)));
  behind = λ n lt h. or-right (leb m 72) (leb m (72 + 64 * n)) (le-leb m (72 + 64 * n) (omega (arith, low, h)));
}

pub child-inside : (m : ℕ) → 72 < m → Inside m (Under (InRecord 9) (last_child m)) (m - (72 + 64 * last_child m))
child-inside m low = record {
  stays = above;
  before = λ n lt h. neither (leb m 72 || leb m (72 + 64 * last_child m)) (leb m (72 + 64 * last_child m + n)) above
      (lt-leb m (72 + 64 * last_child m + n) (omega (arith, low, h)));
  behind = λ n lt h. or-right (leb m 72 || leb m (72 + 64 * last_child m)) (leb m (72 + 64 * last_child m + n))
      (le-leb m (72 + 64 * last_child m + n) (omega (arith, low, h)));
}
  where
    above : (leb m 72 || leb m (72 + 64 * last_child m)) ≡ false
    above = neither (leb m 72) (leb m (72 + 64 * last_child m)) (lt-leb m 72 low)
        (lt-leb m (72 + 64 * last_child m) (omega (arith, low)))

pub child-low : (m : ℕ) → m ≤ slot_limit → last_child m < 64
child-low m h = omega (arith, h)

-- a child that stays and has slots that are cut is the last one
pub only-child : (m j n : ℕ) → is_cut m (Under (InRecord 9) j) ≡ false
    → is_cut m (Under (Under (InRecord 9) j) n) ≡ true → n < 64 → j ≡ last_child m
only-child m j n stays cut low =
    let s = or-parts (leb m 72) (leb m (72 + 64 * j)) stays in
    let above : 72 < m = leb-lt m 72 s.0 in
    let first : 72 + 64 * j < m = leb-lt m (72 + 64 * j) s.1 in
    elim (or-one (leb m 72 || leb m (72 + 64 * j)) (leb m (72 + 64 * j + n)) cut) [
      | inl t ↦ absurd (cc (t, stays))
      | inr t ↦ (let behind = leb-true m (72 + 64 * j + n) t in omega (arith, above, first, behind, low))
    ]

-- the leaf or the child that is cut inside
abbrev pub below_path : ℕ → Path
below_path m = cond (leb m 72) (InRecord 8) (Under (InRecord 9) (last_child m))

pub near-path : (m : ℕ) → m ≤ 72 → below_path m ≡ InRecord 8
near-path m h = let t = le-leb m 72 h in rw t refl

pub far-path : (m : ℕ) → 72 < m → below_path m ≡ Under (InRecord 9) (last_child m)
far-path m h = let t = lt-leb m 72 h in rw t refl

-- Numbers

first-near : (m : ℕ) → m ≤ 8 → first_cut m ≡ 2 ^ 32
first-near m h = let t = le-leb m 8 h in rw t refl

first-leaf : (m : ℕ) → 8 < m → m ≤ 72 → first_cut m ≡ 2 ^ 32 + 1
first-leaf m low high = let t = lt-leb m 8 low in let s = le-leb m 72 high in rw (t, s) refl

first-far : (m : ℕ) → 72 < m → first_cut m ≡ 2 ^ 32 + 2 + (m - 9) / 64
first-far m low = let t = lt-leb m 8 (omega (arith, low)) in let s = lt-leb m 72 low in rw (t, s) refl

pub cut-from : (m k : ℕ) → 2 ^ 32 ≤ k → k < 2 ^ 32 + 66 → first_cut m ≤ k → is_cut m (path_of k) ≡ true
cut-from m k low high from = elim (cases_lt k (2 ^ 32 + 2)) [
  | inl few ↦ ap (is_cut m) (path-record k (omega (arith, low)) few) ∙ in-record few
  | inr many ↦ ap (is_cut m) (path-child k many) ∙ child-cut many
]
  where
    near : first_cut m ≤ k → (m ≤ 8) ⊎ ((2 ^ 32 + 1 ≤ k) × (8 < m))
    near f = elim (cases_lt 8 m) [
      | inr le ↦ inl le
      | inl lt ↦ elim (cases_lt 72 m) [
        | inr le ↦ (let e = first-leaf m lt le in inr (omega (arith, e, f), lt))
        | inl gt ↦ (let e = first-far m gt in inr (omega (arith, e, f), lt))
      ]
    ]

    in-record : k < 2 ^ 32 + 2 → is_cut m (InRecord (8 + (k - 2 ^ 32))) ≡ true
    in-record few = elim (cases_lt k (2 ^ 32 + 1)) [
      | inl zero ↦
          let e : 8 + (k - 2 ^ 32) ≡ 8 = omega (arith, low, zero) in
          ap (λ (n : ℕ). is_cut m (InRecord n)) e ∙ (elim (near from) [
            | inl le ↦ le-leb m 8 le
            | inr past ↦ absurd (let q = past.0 in omega (arith, q, zero))
          ])
      | inr one ↦
          let e : 8 + (k - 2 ^ 32) ≡ 9 = omega (arith, few, one) in
          ap (λ (n : ℕ). is_cut m (InRecord n)) e ∙ (elim (cases_lt 72 m) [
            | inr le ↦ le-leb m 72 le
            | inl gt ↦ absurd (let f = first-far m gt in omega (arith, f, from, few))
          ])
    ]

    child-cut : 2 ^ 32 + 2 ≤ k → is_cut m (Under (InRecord 9) (k - (2 ^ 32 + 2))) ≡ true
    child-cut many = or-right (leb m 72) (leb m (72 + 64 * (k - (2 ^ 32 + 2)))) (elim (cases_lt 72 m) [
      | inr le ↦ le-leb m (72 + 64 * (k - (2 ^ 32 + 2))) (omega (arith, le))
      | inl gt ↦ (let f = first-far m gt in le-leb m (72 + 64 * (k - (2 ^ 32 + 2))) (omega (arith, f, from, many, gt)))
    ])

pub from-cut : (m k : ℕ) → 2 ^ 32 ≤ k → k < 2 ^ 32 + 66 → is_cut m (path_of k) ≡ true → first_cut m ≤ k
from-cut m k low high cut = elim (cases_lt k (2 ^ 32 + 2)) [
  | inl few ↦ in-record few (sym (ap (is_cut m) (path-record k (omega (arith, low)) few)) ∙ cut)
  | inr many ↦ child-cut many (sym (ap (is_cut m) (path-child k many)) ∙ cut)
]
  where
    at-most : m ≤ 72 → first_cut m ≤ 2 ^ 32 + 1
    at-most h = elim (cases_lt 8 m) [
      | inr le ↦ (let e = first-near m le in omega (arith, e))
      | inl lt ↦ (let e = first-leaf m lt h in omega (arith, e))
    ]

    in-record : k < 2 ^ 32 + 2 → is_cut m (InRecord (8 + (k - 2 ^ 32))) ≡ true → first_cut m ≤ k
    in-record few t = elim (cases_lt k (2 ^ 32 + 1)) [
      | inl zero ↦
          let e : 8 + (k - 2 ^ 32) ≡ 8 = omega (arith, low, zero) in
          let le = leb-true m 8 (sym (ap (λ (n : ℕ). is_cut m (InRecord n)) e) ∙ t) in
          let f = first-near m le in omega (arith, f, low)
      | inr one ↦
          let e : 8 + (k - 2 ^ 32) ≡ 9 = omega (arith, few, one) in
          let le = leb-true m 72 (sym (ap (λ (n : ℕ). is_cut m (InRecord n)) e) ∙ t) in
          let f = at-most le in omega (arith, f, one)
    ]

    child-cut : 2 ^ 32 + 2 ≤ k → is_cut m (Under (InRecord 9) (k - (2 ^ 32 + 2))) ≡ true → first_cut m ≤ k
    child-cut many t = elim (cases_lt 72 m) [
      | inr le ↦ (let f = at-most le in omega (arith, f, many))
      | inl gt ↦ elim (or-one (leb m 72) (leb m (72 + 64 * (k - (2 ^ 32 + 2)))) t) [
        | inl s ↦ absurd (let z = leb-true m 72 s in omega (arith, z, gt))
        | inr s ↦ (let z = leb-true m (72 + 64 * (k - (2 ^ 32 + 2))) s in let f = first-far m gt in
            omega (arith, f, z, many, gt))
      ]
    ]
