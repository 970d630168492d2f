-- A slot of content gets a block: the pointer blocks above it are there already, or are claimed with it.
use Rattle.std.proofs.Common.{◌≡◌, ◌≢◌, ℕ, suc, ◌<◌, ◌≤◌, ◌⊎◌, inl, inr, Bool, true, false, eqb, Some, refl, sym, ap}
use Rattle.std.proofs.Common.{ap₂, ◌∙◌, subst, arith, eqb-true, eq-eqb}
use Rattle.nofs_model.specs.declared.image.path.PathAnswer.{PathAnswer}
use Rattle.nofs_crashlaw.specs.Untouched.Frames.{Rewrites, SameIdentity, OldPointers}
use Rattle.nofs_model.proofs.OnSlots.Find.{and-both, find-built, agrees-built, judged-built-null}
use Rattle.nofs_ptrs.specs.PathLaws.{path_of-slot, slot_of-path_of}
use Rattle.nofs_model.proofs.OnSlots.Paths.{path_of-content, above-refl, above-up}
use Rattle.nofs_crashlaw.proofs.OnUntouched.Frames.{judged-same}
use Rattle.nofs_model.specs.declared.image.path.PathAnswer.TheVariants as answer
use Rattle.nofs_history.specs.Machine.{same_path}
use Rattle.nofs_disk.specs.declared.tag.Cell.{Cell}
use Rattle.nofs_disk.specs.declared.tag.Pointer.{Pointer}
use Rattle.nofs_disk.specs.Tag.{tag_of}
use Rattle.nofs_disk.specs.Pointer.{is_null}
use Rattle.nofs_ptrs.specs.Cells.{pointer_at}
use Rattle.nofs_inode.specs.InodeRecords.{is_live}
use Rattle.nofs_ptrs.specs.Paths.{slot_limit, Path, InRecord, Under, path_of, slot_of, is_pointer_slot, IsSlot}
use Rattle.nofs_model.specs.Geometry.{Image, is_data_block, inode}
use Rattle.nofs_disk.specs.Disk.{cell_at}
use Rattle.nofs_model.specs.Files.{files_in, agreed}
use Rattle.nofs_model.specs.Slots.{value, value_in, tag_for, judged, find, pointer, record_pointer, IsAbove}
use Rattle.nofs_model.specs.declared.image.value.Value.TheVariants.{Bytes}
use Rattle.nofs_crashlaw.specs.Files.Growth.{IsPlaced}

pub same_path-true : (a b : Path) → same_path a b ≡ true → a ≡ b
same_path-true (InRecord a) (InRecord b) e = ap InRecord (eqb-true a b e)
same_path-true (InRecord a) (Under b k) e = cc
same_path-true (Under a n) (InRecord b) e = cc
same_path-true (Under a n) (Under b k) e =
    let p = and-both (same_path a b) (eqb n k) e in
    ap₂ Under (same_path-true a b p.0) (eqb-true n k p.1)

pub same_path-refl : (a : Path) → same_path a a ≡ true
same_path-refl (InRecord n) = eq-eqb n n refl
same_path-refl (Under a n) = rw (same_path-refl a, eq-eqb n n refl) refl

same-or-not : (a b : Path) → (a ≡ b) ⊎ (a ≢ b)
same-or-not a b = go (same_path a b) refl
  where
    go : (t : Bool) → same_path a b ≡ t → (a ≡ b) ⊎ (a ≢ b)
    go true e = inl (same_path-true a b e)
    go false e = inr (λ s. let t : same_path a b ≡ true =
        subst (λ (q : Path). same_path a q ≡ true) s (same_path-refl a) in cc (e, t))

pub above-or-not : (a p : Path) → IsAbove a p ⊎ (IsAbove a p → ⊥)
above-or-not a (InRecord n) = same-or-not a (InRecord n)
above-or-not a (Under b n) = go (same-or-not a (Under b n)) (above-or-not a b)
  where
    go : (a ≡ Under b n) ⊎ (a ≢ Under b n) → IsAbove a b ⊎ (IsAbove a b → ⊥)
        → IsAbove a (Under b n) ⊎ (IsAbove a (Under b n) → ⊥)
    go (inl e) r = inl (inl e)
    go (inr ne) (inl r) = inl (inr r)
    go (inr ne) (inr nr) = inr (λ h. elim h [ inl e ↦ ne e | inr r ↦ nr r ])

-- how deep a slot lies
abbrev pub depth : Path → ℕ
depth (InRecord n) = 0
depth (Under a n) = suc (depth a)

pub above-depth : (a p : Path) → IsAbove a p → depth a ≤ depth p
above-depth a (InRecord n) e = let d : depth a ≡ 0 = ap depth e in omega (arith, d)
above-depth a (Under b n) (inl e) = let d : depth a ≡ suc (depth b) = ap depth e in omega (arith, d)
above-depth a (Under b n) (inr r) = let d = above-depth a b r in omega (arith, d)

under-place : (a b : Path) (n q : ℕ) → Under a n ≡ Under b q → n ≡ q
under-place a b n q e = cc e

-- two places under one slot are not both above p
pub one-way : (p b : Path) (q n : ℕ) → IsAbove (Under b q) p → IsAbove (Under b n) p → q ≡ n
one-way (InRecord m) b q n h l = cc h
one-way (Under c m) b q n (inl e) (inl f) = under-place b b q n (e ∙ sym f)
one-way (Under c m) b q n (inr h) (inr l) = one-way c b q n h l
one-way (Under c m) b q n (inl e) (inr l) = let d : suc (depth b) ≡ suc (depth c) = ap depth e in let r =
    above-depth (Under b n) c l in absurd (omega (arith, d, r))
one-way (Under c m) b q n (inr h) (inl f) = let d : suc (depth b) ≡ suc (depth c) = ap depth f in let r =
    above-depth (Under b q) c h in absurd (omega (arith, d, r))

-- where the pointer under a slot that held and holds is the same, what is found there is
pub kept-under : (s : ℕ) (X Y : Image) (i : ℕ) → Rewrites s X Y → agreed (files_in X) i ≡ true → SameIdentity X Y i
    → OldPointers s X i → (b : Path) (n : ℕ)
    → IsSlot (Under b n) → (z : Pointer) → find X i b ≡ answer.Holds z → find Y i b ≡ answer.Holds z
    → pointer_at (cell_at Y z.block).payload n ≡ pointer_at (cell_at X z.block).payload n
    → find Y i (Under b n) ≡ find X i (Under b n)
kept-under s X Y i w owned same old b n slot z ex ey q =
    let px : pointer X i (Under b n) ≡ pointer_at (cell_at X z.block).payload n = rw (ex, pointer) refl in
    let lt : (pointer_at (cell_at X z.block).payload n).stamp < s =
    subst (λ (r : Pointer). r.stamp < s) px (old (Under b n) slot) in
    let fx : judged X i (Under b n) (pointer_at (cell_at X z.block).payload n) ≡ find X i (Under b n) =
    rw (ex, find) refl in
    rw (ex, ey, find) (ap (λ (x : Pointer). judged Y i (Under b n) x) q
    ∙ judged-same s X Y w i owned same (Under b n) (pointer_at (cell_at X z.block).payload n) slot lt fx)

-- a slot above a content slot is that slot or has pointers
above-content : (a p : Path) → IsSlot p → IsAbove a p → (a ≡ p) ⊎ (is_pointer_slot a ≡ true)
above-content a (InRecord n) s e = inl e
above-content a (Under b n) s (inl e) = inl e
above-content a (Under b n) s (inr r) = elim (above-content a b s.2 r) [
  | inl e ↦ inr (subst (λ (q : Path). is_pointer_slot q ≡ true) (sym e) s.0)
  | inr p ↦ inr p
]

module _ (s : ℕ) (X Y : Image) (i : ℕ) (w : Rewrites s X Y) (owned : agreed (files_in X) i ≡ true)
    (same : SameIdentity X Y i) (old : OldPointers s X i)
    (p : Path) (at : Path → Pointer)
    -- on the path of p each slot has its pointer and its tag
    (placed : (a : Path) → IsAbove a p → IsPlaced Y i at a)
    (not_null : (a : Path) → IsAbove a p → is_null (at a) ≡ false)
    (area : (a : Path) → IsAbove a p → is_data_block Y (at a).block ≡ true)
    (tag : (a : Path) → IsAbove a p → tag_of (cell_at Y (at a).block).tag ≡ Some (tag_for Y i a (at a).stamp))
    -- beside the path pointers stay, or are null under a slot that was empty
    (record_stays : (n : ℕ) → (IsAbove (InRecord n) p → ⊥)
    → record_pointer (inode Y i) n ≡ record_pointer (inode X i) n)
    (beside : (b : Path) (n : ℕ) → IsSlot (Under b n) → IsAbove b p → (IsAbove (Under b n) p → ⊥)
    → ((find X i b ≡ answer.Holds (at b))
    × (pointer_at (cell_at Y (at b).block).payload n ≡ pointer_at (cell_at X (at b).block).payload n))
    ⊎ ((find X i b ≡ answer.Hole) × (is_null (pointer_at (cell_at Y (at b).block).payload n) ≡ true)))
    (apart : (b : Path) (y : Pointer) → IsSlot b → (IsAbove b p → ⊥) → find X i b ≡ answer.Holds y
    → cell_at Y y.block ≡ cell_at X y.block) where
  live : is_live (inode Y i) ≡ true
  live = let l = same.live in rw same.kind l

  -- each slot of the path holds
  pub on-path : (a : Path) → IsAbove a p → find Y i a ≡ answer.Holds (at a)
  on-path (InRecord n) h = find-built Y i (InRecord n) (at (InRecord n)) tt (placed (InRecord n) h)
      (agrees-built Y i (InRecord n) (at (InRecord n))
      (record { live = live; area = area (InRecord n) h; tag = tag (InRecord n) h })) (not_null (InRecord n) h)
  on-path (Under b n) h =
      let up = on-path b (above-up b n p h) in
      find-built Y i (Under b n) (at (Under b n)) (at b, up) (rw (up, pointer) (placed (Under b n) h))
      (agrees-built Y i (Under b n) (at (Under b n))
      (record { live = live; area = area (Under b n) h; tag = tag (Under b n) h })) (not_null (Under b n) h)

  -- any other slot is found as before
  pub off-path : (a : Path) → IsSlot a → (IsAbove a p → ⊥) → find Y i a ≡ find X i a
  off-path (InRecord n) slot off =
      ap (λ (x : Pointer). judged Y i (InRecord n) x) (record_stays n off)
      ∙ judged-same s X Y w i owned same (InRecord n) (record_pointer (inode X i) n) slot (old (InRecord n) slot) refl
  off-path (Under b n) slot off = by-parent (above-or-not b p) (find X i b) refl (λ nb. off-path b slot.2 nb)
    where
      by-parent : IsAbove b p ⊎ (IsAbove b p → ⊥)
          → (f : PathAnswer) → find X i b ≡ f → ((IsAbove b p → ⊥) → find Y i b ≡ find X i b)
          → find Y i (Under b n) ≡ find X i (Under b n)
      by-parent (inl hb) f e ih = elim (beside b n slot hb off) [
        | inl kept ↦ kept-under s X Y i w owned same old b n slot (at b) kept.0 (on-path b hb) kept.1
        | inr new ↦
            let y = on-path b hb in
            let yn : find Y i (Under b n) ≡ answer.Hole = rw (y, find)
            (judged-built-null Y i (Under b n) (pointer_at (cell_at Y (at b).block).payload n) new.1) in
            let x = new.0 in
            let xn : find X i (Under b n) ≡ answer.Hole = rw (x, find) refl in
            yn ∙ sym xn
      ]
      by-parent (inr nb) answer.Hole e ih = let y : find Y i b ≡ answer.Hole = ih nb ∙ e in rw (e, y, find) refl
      by-parent (inr nb) answer.Lost e ih = let y : find Y i b ≡ answer.Lost = ih nb ∙ e in rw (e, y, find) refl
      by-parent (inr nb) (answer.Holds z) e ih =
          kept-under s X Y i w owned same old b n slot z e (ih nb ∙ e)
          (ap (λ (c : Cell). pointer_at c.payload n) (apart b z slot.2 nb e))

  -- values beside slot k
  pub value-off : (k l : ℕ) → p ≡ path_of k → k < slot_limit → l < slot_limit → l ≢ k → value Y i l ≡ value X i l
  value-off k l ep ltk ltl ne = go (find X i (path_of l)) refl
    where
      off : IsAbove (path_of l) p → ⊥
      off h =
          let h' : IsAbove (path_of l) (path_of k) = subst (λ (q : Path). IsAbove (path_of l) q) ep h in
          elim (above-content (path_of l) (path_of k) (path_of-slot k ltk) h') [
            | inl e ↦ ne (sym (slot_of-path_of l ltl) ∙ ap slot_of e ∙ slot_of-path_of k ltk)
            | inr q ↦ (let c = path_of-content l ltl in cc (q, c))
          ]

      y : find Y i (path_of l) ≡ find X i (path_of l)
      y = off-path (path_of l) (path_of-slot l ltl) off

      go : (f : PathAnswer) → find X i (path_of l) ≡ f → value Y i l ≡ value X i l
      go answer.Hole e = ap (λ (q : PathAnswer). value_in Y q) (y ∙ e) ∙ sym (ap (λ (q : PathAnswer). value_in X q) e)
      go answer.Lost e = ap (λ (q : PathAnswer). value_in Y q) (y ∙ e) ∙ sym (ap (λ (q : PathAnswer). value_in X q) e)
      go (answer.Holds z) e = ap (λ (q : PathAnswer). value_in Y q) (y ∙ e)
          ∙ ap (λ (c : Cell). Bytes c.payload) (apart (path_of l) z (path_of-slot l ltl) off e)
          ∙ sym (ap (λ (q : PathAnswer). value_in X q) e)

  -- and the value there
  pub value-on : (k : ℕ) → p ≡ path_of k → value Y i k ≡ Bytes (cell_at Y (at p).block).payload
  value-on k ep = ap (λ (q : PathAnswer). value_in Y q)
      (subst (λ (q : Path). find Y i q ≡ answer.Holds (at p)) ep (on-path p (above-refl p)))
