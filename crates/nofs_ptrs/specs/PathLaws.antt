-- A slot has one place, and a place one slot.
use Rattle.std.proofs.Common.{◌≡◌, ℕ, ◌+◌, ◌-◌, ◌*◌, ◌/◌, ◌%◌, ◌^◌, ◌<◌, ◌≤◌, ◌⊎◌, inl, inr, true, refl, ap, ap₂, ◌∙◌}
use Rattle.std.proofs.Common.{arith, eqb-true, leb-true, lt-ltb}
use Rattle.std.proofs.Common.{le-ltb}
use Rattle.std.proofs.lemmas.Bool.{cases_lt, false≢true}
use Rattle.nofs_ptrs.specs.Paths.{Path, InRecord, Under, leaf, child, path_of, slot_of, is_pointer_slot, IsSlot}
use Rattle.nofs_ptrs.specs.Paths.{slot_limit}

pub path-direct : (k : ℕ) → k < 8 → path_of k ≡ InRecord k
unfolding path_of
path-direct k h = rw (lt-ltb k 8 h)

pub path-leaf : (k : ℕ) → 8 ≤ k → k < 72 → path_of k ≡ Under leaf (k - 8)
unfolding path_of
path-leaf k l h = rw (le-ltb k 8 l, lt-ltb k 72 h)

pub path-far : (k : ℕ) → 72 ≤ k → k < slot_limit → path_of k ≡ Under (child ((k - 72) / 64)) ((k - 72) % 64)
unfolding path_of
path-far k l h = rw (le-ltb k 8 (omega arith), le-ltb k 72 l, lt-ltb k slot_limit h)

path-record : (k : ℕ) → slot_limit ≤ k → k < 2 ^ 32 + 2 → path_of k ≡ InRecord (8 + (k - 2 ^ 32))
unfolding path_of
path-record k l h =
    rw (le-ltb k 8 (omega arith), le-ltb k 72 (omega arith), le-ltb k slot_limit l, lt-ltb k (2 ^ 32 + 2) h)

path-child : (k : ℕ) → 2 ^ 32 + 2 ≤ k → path_of k ≡ child (k - (2 ^ 32 + 2))
unfolding path_of
path-child k l =
    rw (le-ltb k 8 (omega arith), le-ltb k 72 (omega arith), le-ltb k slot_limit (omega arith), le-ltb k (2 ^ 32 + 2) l)

record-slot : (n : ℕ) → n < 10 → path_of (slot_of (InRecord n)) ≡ InRecord n
unfolding slot_of
record-slot n h = elim (cases_lt n 8) [
  | inl lt ↦ rw (lt-ltb n 8 lt) (path-direct n lt)
  | inr le ↦ rw (le-ltb n 8 le) (path-record (2 ^ 32 + (n - 8)) (omega arith) (omega arith) ∙ ap InRecord (omega arith))
]

leaf-slot : (n j : ℕ) → n ≡ 8 → j < 64 → path_of (slot_of (Under (InRecord n) j)) ≡ Under (InRecord n) j
unfolding slot_of
leaf-slot n j e h = rw e (path-leaf (8 + j) (omega arith) (omega arith) ∙ ap (Under leaf) (omega arith))

child-slot : (n j : ℕ) → n ≡ 9 → j < 64 → path_of (slot_of (Under (InRecord n) j)) ≡ Under (InRecord n) j
unfolding slot_of
child-slot n j e h = rw e (path-child (2 ^ 32 + 2 + j) (omega arith) ∙ ap child (omega arith))

far-slot : (a : Path) (j q : ℕ) → a ≡ InRecord 9
    → j < 64 → q < 64 → path_of (slot_of (Under (Under a j) q)) ≡ Under (Under a j) q
unfolding slot_of
far-slot a j q e h l = rw e (path-far (72 + 64 * j + q) (omega arith) (omega arith)
    ∙ ap₂ (λ (x y : ℕ). Under (child x) y) (omega arith) (omega arith))

pointer-record : (n : ℕ) → n < 10 → is_pointer_slot (InRecord n) ≡ true → (n ≡ 8) ⊎ (n ≡ 9)
pointer-record n h e = let le : 8 ≤ n = leb-true 8 n e in grind arith

-- the number of a place leads back to it
pub path_of-slot_of : (a : Path) → IsSlot a → path_of (slot_of a) ≡ a
path_of-slot_of (InRecord n) h = record-slot n h
path_of-slot_of (Under (InRecord n) j) h = elim (pointer-record n h.2 h.0) [
  | inl e ↦ leaf-slot n j e h.1
  | inr e ↦ child-slot n j e h.1
]
path_of-slot_of (Under (Under (InRecord n) j) q) h =
    far-slot (InRecord n) j q (ap InRecord (eqb-true n 9 h.0)) h.2.1 h.1
path_of-slot_of (Under (Under (Under a i) j) q) h = absurd (false≢true h.0)

-- the place of a slot of content leads back to its number
pub slot_of-path_of : (k : ℕ) → k < slot_limit → slot_of (path_of k) ≡ k
unfolding slot_of
slot_of-path_of k h = elim (cases_lt k 8) [
  | inl lt ↦ rw (path-direct k lt, lt-ltb k 8 lt)
  | inr le ↦ elim (cases_lt k 72) [
    | inl lt ↦ rw (path-leaf k le lt) (omega arith)
    | inr far ↦ rw (path-far k far h) (omega arith)
  ]
]

-- so does that of a leaf, a top and a child
pub slot_of-path_of-node : (k : ℕ) → 2 ^ 32 ≤ k → k < 2 ^ 32 + 66 → slot_of (path_of k) ≡ k
unfolding slot_of
slot_of-path_of-node k l h = elim (cases_lt k (2 ^ 32 + 2)) [
  | inl lt ↦ rw (path-record k (omega arith) lt, le-ltb (8 + (k - 2 ^ 32)) 8 (omega arith)) (omega arith)
  | inr le ↦ rw (path-child k le) (omega arith)
]

-- the place of a slot of content
pub path_of-slot : (k : ℕ) → k < slot_limit → IsSlot (path_of k)
path_of-slot k h = elim (cases_lt k 8) [
  | inl lt ↦ rw (path-direct k lt) (omega arith)
  | inr le ↦ elim (cases_lt k 72) [
    | inl lt ↦ rw (path-leaf k le lt) (refl, omega arith, omega arith)
    | inr far ↦ rw (path-far k far h) (refl, omega arith, (refl, omega arith, omega arith))
  ]
]
