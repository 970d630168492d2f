-- Inodes with one pointer at most, in slot 0: what their slots hold.
use Rattle.std.proofs.Common.{◌≡◌, ℕ, zero, suc, ◌<◌, ◌⊎◌, inl, inr, true, false, eqb, Option, Some, None, refl, sym}
use Rattle.std.proofs.Common.{ap, ◌∙◌, subst, arith}
use Rattle.nofs_disk.specs.declared.tag.Cell.{Cell}
use Rattle.nofs_disk.specs.declared.tag.Pointer.{Pointer}
use Rattle.nofs_inode.specs.declared.inode.Record.{Record}
use Rattle.nofs_disk.specs.Pointer.{null, is_null}
use Rattle.nofs_ptrs.specs.Paths.{slot_limit, Path, InRecord, Under, path_of, is_pointer_slot, IsSlot}
use Rattle.nofs_model.specs.Geometry.{Image, inode}
use Rattle.nofs_model.specs.Slots.{record_pointer, judged, find, pointer, value, value_in}
use Rattle.nofs_model.specs.Files.{agreed}
use Rattle.nofs_model.specs.Owners.{IsFree, owner, Home}
use Rattle.nofs_model.specs.declared.image.path.PathAnswer.{PathAnswer}
use Rattle.nofs_model.specs.declared.image.path.PathAnswer.TheVariants as answer
use Rattle.nofs_model.specs.declared.image.value.Value.TheVariants.{Hole}
use Rattle.nofs_model.proofs.OnSlots.Find.{judged-held, judged-built-null}
use Rattle.nofs_model.proofs.OnOwners.Slots.{owner-holds, owner-slot}
use Rattle.nofs_ptrs.specs.PathLaws.{path_of-slot}
use Rattle.nofs_model.proofs.OnSlots.Paths.{path_of-number}
use Rattle.nofs_crashlaw.specs.Untouched.Frames.{OldPointers}
use Rattle.nofs_cases.specs.Disks.Images.{image_of}
use Rattle.nofs_cases.proofs.OnDisks.Numbers.{one_of, each-number}
use Rattle.nofs_cases.proofs.OnDisks.Images.{plain, nth, HasRecords, inode-is}

-- the record has this pointer in slot 0, and no other
abbrev pub IsPlain : Record → Pointer → Type 0
IsPlain r x = r ≡ plain r.generation r.kind r.links r.size x

-- the pointers of inodes 1 to 3
abbrev pub pick : Pointer → Pointer → Pointer → ℕ → Pointer
pick p q r = one_of null p q r

abbrev pub ArePlain : Image → (ℕ → Pointer) → Type 0
ArePlain X at = (i : ℕ) → IsPlain (inode X i) (at i)

pub plain-image : (t x y : Cell) (a b c : Record) (p q r : Pointer) → HasRecords t a b c → IsPlain a p
    → IsPlain b q → IsPlain c r
    → ArePlain (image_of t x y) (pick p q r)
plain-image t x y a b c p q r h pa pb pc i =
    subst (λ (s : Record). IsPlain s (pick p q r i)) (sym (inode-is t x y a b c h i))
    (each-number (λ n. IsPlain (nth a b c n) (pick p q r n)) refl pa pb pc (λ n. refl) i)

-- every place of the record but the first is empty
others-are : (r : Record) (x : Pointer) → IsPlain r x → (m : ℕ) → record_pointer r (suc m) ≡ null
others-are r x e m = ap (λ (s : Record). record_pointer s (suc m)) e ∙ go m
  where
    not-leaf : (n : ℕ) → eqb (suc (suc (suc (suc (suc (suc (suc (suc (suc (suc n)))))))))) 8 ≡ false
    not-leaf n = grind arith

    not-top : (n : ℕ) → eqb (suc (suc (suc (suc (suc (suc (suc (suc (suc (suc n)))))))))) 9 ≡ false
    not-top n = grind arith

    go : (m : ℕ) → record_pointer (plain r.generation r.kind r.links r.size x) (suc m) ≡ null
    go zero = refl
    go (suc zero) = refl
    go (suc (suc zero)) = refl
    go (suc (suc (suc zero))) = refl
    go (suc (suc (suc (suc zero)))) = refl
    go (suc (suc (suc (suc (suc zero))))) = refl
    go (suc (suc (suc (suc (suc (suc zero)))))) = refl
    go (suc (suc (suc (suc (suc (suc (suc zero))))))) = refl
    go (suc (suc (suc (suc (suc (suc (suc (suc zero)))))))) = refl
    go (suc (suc (suc (suc (suc (suc (suc (suc (suc n))))))))) = rw (not-leaf n, not-top n) refl

pub others-null : (r : Record) (x : Pointer) → IsPlain r x → (m : ℕ) → is_null (record_pointer r (suc m)) ≡ true
others-null r x is m = ap is_null (others-are r x is m)

-- a record without a pointer
pub no-pointers : (r : Record) → IsPlain r null → (n : ℕ) → is_null (record_pointer r n) ≡ true
no-pointers r is zero = ap (λ (q : Record). is_null (record_pointer q 0)) is
no-pointers r is (suc m) = others-null r null is m

pub others-stamp : (r : Record) (x : Pointer) → IsPlain r x → (m : ℕ) → (record_pointer r (suc m)).stamp ≡ 0
others-stamp r x is m = ap (λ (p : Pointer). p.stamp) (others-are r x is m)

-- no slot stands under slot 0
pub not-under : (a : Path) → is_pointer_slot a ≡ true → a ≡ InRecord 0 → ⊥
not-under a points e =
    let h : false ≡ true = subst (λ (p : Path). is_pointer_slot p ≡ true) e points in
    cc h

module _ (X : Image) (i : ℕ) (x : Pointer) (is : IsPlain (inode X i) x) where
  -- a slot is slot 0, or empty
  pub slot-is : (path : Path) → IsSlot path → (path ≡ InRecord 0) ⊎ (find X i path ≡ answer.Hole)
  slot-is (InRecord zero) lt = inl refl
  slot-is (InRecord (suc m)) lt = inr
      (judged-built-null X i (InRecord (suc m)) (record_pointer (inode X i) (suc m)) (others-null (inode X i) x is m))
  slot-is (Under a n) slot = elim (slot-is a slot.2) [
    | inl e ↦ absurd (not-under a slot.0 e)
    | inr z ↦ inr (rw (z, find) refl)
  ]

  pub slot-first : find X i (InRecord 0) ≡ judged X i (InRecord 0) x
  slot-first = ap (λ (r : Record). judged X i (InRecord 0) (record_pointer r 0)) is

  -- what holds is slot 0 with its pointer
  pub held-is : (path : Path) (y : Pointer) → IsSlot path → find X i path ≡ answer.Holds y
      → (path ≡ InRecord 0) × (x ≡ y)
  held-is path y slot h = elim (slot-is path slot) [
    | inl e ↦ (
      e,
      (judged-held X i (InRecord 0) x y (sym slot-first ∙ subst (λ (p : Path). find X i p ≡ answer.Holds y) e h)).0,
    )
    | inr z ↦ cc (z, h)
  ]

  pub old-pointers : (s : ℕ) → x.stamp < s → OldPointers s X i
  old-pointers s lt (InRecord zero) slot = let e : (record_pointer (inode X i) 0).stamp ≡ x.stamp =
      ap (λ (r : Record). (record_pointer r 0).stamp) is in omega (arith, e, lt)
  old-pointers s lt (InRecord (suc m)) slot = let e = others-stamp (inode X i) x is m in omega (arith, e, lt)
  old-pointers s lt (Under a n) slot = elim (slot-is a slot.2) [
    | inl e ↦ absurd (not-under a slot.0 e)
    | inr z ↦ let e : (pointer X i (Under a n)).stamp ≡ 0 = rw (z, pointer) refl in omega (arith, e, lt)
  ]

-- an inode without a pointer has holes alone
pub empty : (X : Image) (i : ℕ) → IsPlain (inode X i) null → (path : Path) → IsSlot path → find X i path ≡ answer.Hole
empty X i is path slot = elim (slot-is X i null is path slot) [
  | inl e ↦ subst (λ (p : Path). find X i p ≡ answer.Hole) (sym e) (slot-first X i null is)
  | inr z ↦ z
]

pub empty-value : (X : Image) (i : ℕ) → IsPlain (inode X i) null → (k : ℕ) → k < slot_limit → value X i k ≡ Hole
empty-value X i is k lt = ap (λ (f : PathAnswer). value_in X f) (empty X i is (path_of k) (path_of-slot k lt))

pub empty-holds : (X : Image) (i : ℕ) → IsPlain (inode X i) null → (path : Path) (y : Pointer) → IsSlot path
    → find X i path ≡ answer.Holds y → ⊥
empty-holds X i is path y slot h = let z = empty X i is path slot in cc (z, h)

-- a block that no pointer names is free
pub free-is : (X : Image) (at : ℕ → Pointer) (b : ℕ) → ArePlain X at
    → ((i : ℕ) → (at i).block ≡ b → at i ≡ null) → IsFree X b
free-is X at b are apart i path y slot agreed h e =
    let d = held-is X i (at i) (are i) path y slot h in
    let n : at i ≡ null = apart i (ap (λ (q : Pointer). q.block) d.1 ∙ e) in
    empty-holds X i (subst (λ (q : Pointer). IsPlain (inode X i) q) n (are i)) path y slot h

-- and has no owner
pub unowned : (X : Image) (p : ℕ) → IsFree X p → owner X p ≡ None
unowned X p free = go (owner X p) refl
  where
    go : (o : Option Home) → owner X p ≡ o → o ≡ None
    go None e = refl
    go (Some h) e =
        let w = owner-holds X p h.inode h.slot e in
        let s = path_of-number h.slot (owner-slot X p h.inode h.slot e) in
        absurd (free h.inode (path_of h.slot) w.0 s.0 w.1 w.2 w.3)
