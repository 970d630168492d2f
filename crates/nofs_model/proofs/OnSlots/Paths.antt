-- The numbers of slots, and which slot lies above which.
use Rattle.std.proofs.Common.{◌≡◌, ℕ, ◌+◌, ◌-◌, ◌*◌, ◌^◌, ◌<◌, ◌≤◌, ◌⊎◌, inl, inr, Bool, true, false, leb, ltb, ◌&&◌}
use Rattle.std.proofs.Common.{refl, sym, subst, arith, leb-true, ltb-true, lt-ltb, le-ltb, le-leb}
use Rattle.std.proofs.lemmas.Bool.{cases_lt, false≢true}
use Rattle.std.proofs.lemmas.Bool.Decides.{nat_tests}
use Rattle.nofs_ptrs.specs.PathLaws.{path-direct, path-leaf, path-far, slot_of-path_of}
use Rattle.nofs_ptrs.specs.PathLaws.{slot_of-path_of-node, path_of-slot}
use Rattle.nofs_ptrs.specs.Paths.{slot_limit}
use Rattle.nofs_ptrs.specs.Paths.{Path, InRecord, Under, child, path_of, slot_of, is_pointer_slot, IsSlot, is_slot}
use Rattle.nofs_model.specs.Slots.{IsAbove, find}
use Rattle.nofs_model.specs.Geometry.{Image}
use Rattle.nofs_model.specs.declared.image.path.PathAnswer.TheVariants as answer

lt-leb : (k : ℕ) → k < 8 → leb 8 k ≡ false
lt-leb k h = grind (arith, nat_tests)

slot-small : (k : ℕ) → k < slot_limit → is_slot k ≡ true
slot-small k h = rw (lt-ltb k slot_limit h) refl

slot-node : (k : ℕ) → 2 ^ 32 ≤ k → k < 2 ^ 32 + 66 → is_slot k ≡ true
slot-node k l h = rw (le-ltb k slot_limit (omega arith), le-leb (2 ^ 32) k l, lt-ltb k (2 ^ 32 + 66) h) refl

pointer-record : (n : ℕ) → n < 10 → is_pointer_slot (InRecord n) ≡ true → (n ≡ 8) ⊎ (n ≡ 9)
pointer-record n h e = let le : 8 ≤ n = leb-true 8 n e in grind arith

-- the number of a place is a slot's
pub slot_of-slot : (a : Path) → IsSlot a → is_slot (slot_of a) ≡ true
unfolding slot_of
slot_of-slot (InRecord n) h = elim (cases_lt n 8) [
  | inl lt ↦ rw (lt-ltb n 8 lt) (slot-small n (omega arith))
  | inr le ↦ rw (le-ltb n 8 le) (slot-node (2 ^ 32 + (n - 8)) (omega arith) (omega arith))
]
slot_of-slot (Under (InRecord n) j) h = let low = h.1 in elim (pointer-record n h.2 h.0) [
  | inl e ↦ rw e (slot-small (8 + j) (omega arith))
  | inr e ↦ rw e (slot-node (2 ^ 32 + 2 + j) (omega arith) (omega arith))
]
slot_of-slot (Under (Under (InRecord n) j) q) h = let low = h.1 in let less = h.2.1 in
    slot-small (72 + 64 * j + q) (omega arith)
slot_of-slot (Under (Under (Under a i) j) q) h = absurd (false≢true h.0)

pub path-record : (k : ℕ) → slot_limit ≤ k → k < 2 ^ 32 + 2 → path_of k ≡ InRecord (8 + (k - 2 ^ 32))
unfolding path_of
path-record k l h =
    rw (le-ltb k 8 (omega arith), le-ltb k 72 (omega arith), le-ltb k slot_limit l, lt-ltb k (2 ^ 32 + 2) h)

pub path-child : (k : ℕ) → 2 ^ 32 + 2 ≤ k → path_of k ≡ child (k - (2 ^ 32 + 2))
unfolding path_of
path-child k l =
    rw (le-ltb k 8 (omega arith), le-ltb k 72 (omega arith), le-ltb k slot_limit (omega arith), le-ltb k (2 ^ 32 + 2) l)

-- the place of a leaf, a top or a child
path_of-node : (k : ℕ) → 2 ^ 32 ≤ k → k < 2 ^ 32 + 66 → IsSlot (path_of k)
path_of-node k l h = elim (cases_lt k (2 ^ 32 + 2)) [
  | inl lt ↦ rw (path-record k (omega arith) lt) (omega arith)
  | inr le ↦ rw (path-child k le) (refl, omega arith, omega arith)
]

node-range : (k : ℕ) → (leb (2 ^ 32) k && ltb k (2 ^ 32 + 66)) ≡ true → (2 ^ 32 ≤ k) × (k < 2 ^ 32 + 66)
node-range k e = go (leb (2 ^ 32) k) refl e
  where
    go : (b : Bool) → leb (2 ^ 32) k ≡ b → (b && ltb k (2 ^ 32 + 66)) ≡ true → (2 ^ 32 ≤ k) × (k < 2 ^ 32 + 66)
    go true eb h = (leb-true (2 ^ 32) k eb, ltb-true k (2 ^ 32 + 66) h)
    go false eb h = cc

-- a slot's number has a place, and it leads back to the number
pub path_of-number : (k : ℕ) → is_slot k ≡ true → IsSlot (path_of k) × (slot_of (path_of k) ≡ k)
path_of-number k e = elim (cases_lt k slot_limit) [
  | inl lt ↦ (path_of-slot k lt, slot_of-path_of k lt)
  | inr le ↦
      let r = node-range k (rw (le-ltb k slot_limit le) at e) in
      (path_of-node k r.0 r.1, slot_of-path_of-node k r.0 r.1)
]

pub path_of-content : (k : ℕ) → k < slot_limit → is_pointer_slot (path_of k) ≡ false
path_of-content k h = elim (cases_lt k 8) [
  | inl lt ↦ rw (path-direct k lt) (lt-leb k lt)
  | inr le ↦ elim (cases_lt k 72) [
    | inl lt ↦ rw (path-leaf k le lt) refl
    | inr far ↦ rw (path-far k far h) refl
  ]
]

pub above-refl : (a : Path) → IsAbove a a
above-refl (InRecord n) = refl
above-refl (Under b n) = inl refl

pub above-up : (a : Path) (n : ℕ) (p : Path) → IsAbove (Under a n) p → IsAbove a p
above-up a n (InRecord q) e = cc
above-up a n (Under b q) (inl e) = let s : a ≡ b = cc in inr (subst (λ (w : Path). IsAbove a w) s (above-refl a))
above-up a n (Under b q) (inr r) = inr (above-up a n b r)

pub below-null : (X : Image) (i : ℕ) (a p : Path) → IsAbove a p → find X i a ≡ answer.Hole → find X i p ≡ answer.Hole
below-null X i a (InRecord n) e h = subst (λ (w : Path). find X i w ≡ answer.Hole) e h
below-null X i a (Under b n) (inl e) h = subst (λ (w : Path). find X i w ≡ answer.Hole) e h
below-null X i a (Under b n) (inr r) h = let ih = below-null X i a b r h in rw (ih, find)

pub above-slot : (a p : Path) → IsAbove a p → IsSlot p → IsSlot a
above-slot a (InRecord n) e s = subst (λ (w : Path). IsSlot w) (sym e) s
above-slot a (Under b n) (inl e) s = subst (λ (w : Path). IsSlot w) (sym e) s
above-slot a (Under b n) (inr r) s = above-slot a b r s.2
