-- What is not agreed loses slots at most.
use Rattle.std.proofs.Common.{◌≡◌, ℕ, ◌<◌, ◌≤◌, ◌⊎◌, inl, inr, Bool, true, false, Some, refl, sym, ap, ◌∙◌, subst}
use Rattle.std.proofs.Common.{arith}
use Rattle.nofs_model.specs.declared.image.path.PathAnswer.{PathAnswer}
use Rattle.nofs_crashlaw.specs.Untouched.Frames.{OldPointers, Touches}
use Rattle.nofs_model.proofs.OnSlots.Find.{agrees-true, find-held}
use Rattle.nofs_ptrs.specs.PathLaws.{path_of-slot}
use Rattle.nofs_crashlaw.proofs.OnUntouched.Inodes.{one-owner}
use Rattle.nofs_model.specs.declared.image.path.PathAnswer.TheVariants as answer
use Rattle.nofs_disk.specs.declared.tag.Cell.{Cell}
use Rattle.nofs_disk.specs.declared.tag.Tag.{Tag}
use Rattle.nofs_disk.specs.declared.tag.Pointer.{Pointer}
use Rattle.nofs_inode.specs.declared.inode.Record.{Record}
use Rattle.nofs_disk.specs.Tag.{tag_of}
use Rattle.nofs_disk.specs.Pointer.{is_null}
use Rattle.nofs_ptrs.specs.Cells.{pointer_at}
use Rattle.nofs_ptrs.specs.Paths.{slot_limit, Path, InRecord, Under, path_of, IsSlot}
use Rattle.nofs_super.specs.Super.{super_in}
use Rattle.nofs_model.specs.Geometry.{Image, super_at, is_data_block, inode}
use Rattle.nofs_disk.specs.Disk.{cell_at}
use Rattle.nofs_model.specs.Slots.{value, value_in, tag_for, agrees, judged, find, pointer, record_pointer}
use Rattle.nofs_model.specs.declared.image.value.Value.{Value}
use Rattle.nofs_model.specs.declared.image.value.Value.TheVariants.{Lost}

module _ (s : ℕ) (touched : ℕ → Bool) (X Y : Image) (w : Touches s touched X Y) (i : ℕ) (apart : touched i ≡ false)
    (old : OldPointers s X i) where
  same-super : super_at Y ≡ super_at X
  unfolding super_at
  same-super = ap (λ (c : Cell). super_in c.payload) w.super

  same-record : inode Y i ≡ inode X i
  same-record = w.records i apart

  same-want : (a : Path) (stamp : ℕ) → tag_for Y i a stamp ≡ tag_for X i a stamp
  same-want a stamp = rw same-record refl

  same-area : (p : ℕ) → is_data_block Y p ≡ is_data_block X p
  same-area p = rw same-super refl

  fresh-tag : (a : Path) (x : Pointer)
      → x.stamp < s → ((t : Tag) → tag_of (cell_at Y x.block).tag ≡ Some t → s ≤ t.stamp) → agrees Y i a x ≡ false
  fresh-tag a x lt fresh = go (agrees Y i a x) refl
    where
      go : (b : Bool) → agrees Y i a x ≡ b → agrees Y i a x ≡ false
      go false e = e
      go true e =
          let h = agrees-true Y i a x e in
          let le : s ≤ x.stamp = fresh (tag_for Y i a x.stamp) h.tag in
          absurd (omega (arith, le, lt))

  -- a block that is written in place is another's
  not-mine : (a : Path) (x : Pointer) → find X i a ≡ answer.Holds x
      → ((j : ℕ) × (path : Path) × (y : Pointer) × (touched j ≡ true) × (find X j path ≡ answer.Holds y)
      × (y.block ≡ x.block)) → ⊥
  not-mine a x e (j, p, y, t, ey, eb) =
      let o = one-owner X j i p a y x ey e eb in
      let t' : touched i ≡ true = subst (λ (q : ℕ). touched q ≡ true) o.0 t in
      cc (apart, t')

  agrees-by-tag : (a : Path) (x : Pointer)
      → tag_of (cell_at Y x.block).tag ≡ tag_of (cell_at X x.block).tag → agrees Y i a x ≡ agrees X i a x
  agrees-by-tag a x e = rw (same-record, same-area x.block, e) refl

  agrees-or-not : (a : Path) (x : Pointer) → x.stamp < s → (agrees Y i a x ≡ agrees X i a x) ⊎ (agrees Y i a x ≡ false)
  agrees-or-not a x lt = go (is_data_block X x.block) refl
    where
      go : (b : Bool) → is_data_block X x.block ≡ b → (agrees Y i a x ≡ agrees X i a x) ⊎ (agrees Y i a x ≡ false)
      go false e = inl (rw (same-record, same-area x.block, e) refl)
      go true e = elim (w.blocks x.block e) [
        | inl same ↦ inl (agrees-by-tag a x (ap (λ (c : Cell). tag_of c.tag) same))
        | inr r ↦ elim r [ inl free ↦ inr (fresh-tag a x lt free.1) | inr own ↦ inl (agrees-by-tag a x own.0) ]
      ]

  judged-or-broken : (a : Path) (x : Pointer) → x.stamp < s → (judged Y i a x ≡ judged X i a x)
      ⊎ (judged Y i a x ≡ answer.Lost)
  judged-or-broken a x lt = go (is_null x) refl
    where
      go : (n : Bool) → is_null x ≡ n → (judged Y i a x ≡ judged X i a x) ⊎ (judged Y i a x ≡ answer.Lost)
      go true e = inl (rw e refl)
      go false e = elim (agrees-or-not a x lt) [ inl same ↦ inl (rw same refl) | inr not ↦ inr (rw (e, not) refl) ]

  kept-cell : (a : Path) (y : Pointer) → y.stamp < s → find X i a ≡ answer.Holds y → find Y i a ≡ answer.Holds y
      → cell_at Y y.block ≡ cell_at X y.block
  kept-cell a y lt ex ey =
      let hx = find-held X i a y ex in
      let hy = find-held Y i a y ey in
      elim (w.blocks y.block hx.agrees.area) [
        | inl same ↦ same
        | inr r ↦ elim r [
          | inl free ↦
              (let le : s ≤ y.stamp = free.1 (tag_for Y i a y.stamp) hy.agrees.tag in absurd (omega (arith, le, lt)))
          | inr own ↦ absurd (not-mine a y ex own.1)
        ]
      ]

  old-held : (a : Path) (y : Pointer) → IsSlot a → find X i a ≡ answer.Holds y → y.stamp < s
  old-held a y slot e = subst (λ (q : Pointer). q.stamp < s) (find-held X i a y e).same (old a slot)

  pub same-or-broken : (path : Path) → IsSlot path → (find Y i path ≡ find X i path) ⊎ (find Y i path ≡ answer.Lost)
  same-or-broken (InRecord n) slot =
      let p : record_pointer (inode Y i) n ≡ record_pointer (inode X i) n =
      ap (λ (r : Record). record_pointer r n) same-record in
      elim (judged-or-broken (InRecord n) (record_pointer (inode X i) n) (old (InRecord n) slot)) [
        | inl e ↦ inl (ap (λ (q : Pointer). judged Y i (InRecord n) q) p ∙ e)
        | inr e ↦ inr (ap (λ (q : Pointer). judged Y i (InRecord n) q) p ∙ e)
      ]
  same-or-broken (Under a n) slot = under (same-or-broken a slot.2) (find X i a) refl
    where
      under : (find Y i a ≡ find X i a) ⊎ (find Y i a ≡ answer.Lost) → (f : PathAnswer) → find X i a ≡ f
          → (find Y i (Under a n) ≡ find X i (Under a n)) ⊎ (find Y i (Under a n) ≡ answer.Lost)
      under (inr b) f e = inr (rw (b, find) refl)
      under (inl same) answer.Hole e = let y : find Y i a ≡ answer.Hole = same ∙ e in inl (rw (e, y, find) refl)
      under (inl same) answer.Lost e = let y : find Y i a ≡ answer.Lost = same ∙ e in inl (rw (e, y, find) refl)
      under (inl same) (answer.Holds z) e =
          let y : find Y i a ≡ answer.Holds z = same ∙ e in
          let c = kept-cell a z (old-held a z slot.2 e) e y in
          let p : pointer_at (cell_at Y z.block).payload n ≡ pointer_at (cell_at X z.block).payload n =
          ap (λ (q : Cell). pointer_at q.payload n) c in
          let px : pointer X i (Under a n) ≡ pointer_at (cell_at X z.block).payload n = rw (e, pointer) refl in
          let lt : (pointer_at (cell_at X z.block).payload n).stamp < s =
          subst (λ (q : Pointer). q.stamp < s) px (old (Under a n) slot) in
          elim (judged-or-broken (Under a n) (pointer_at (cell_at X z.block).payload n) lt) [
            | inl j ↦ inl (rw (e, y, find) (ap (λ (q : Pointer). judged Y i (Under a n) q) p ∙ j))
            | inr j ↦ inr (rw (y, find) (ap (λ (q : Pointer). judged Y i (Under a n) q) p ∙ j))
          ]

  -- each value stays or is lost
  pub value-or-lost : (k : ℕ) → k < slot_limit → (value Y i k ≡ value X i k) ⊎ (value Y i k ≡ Lost)
  value-or-lost k lt = elim (same-or-broken (path_of k) (path_of-slot k lt)) [
    | inl same ↦ inl (go (find X i (path_of k)) refl same)
    | inr broken ↦ inr (ap (λ (q : PathAnswer). value_in Y q) broken)
  ]
    where
      go : (f : PathAnswer) → find X i (path_of k) ≡ f → find Y i (path_of k) ≡ find X i (path_of k)
          → value Y i k ≡ value X i k
      go answer.Hole e same = ap (λ (q : PathAnswer). value_in Y q) (same ∙ e)
          ∙ sym (ap (λ (q : PathAnswer). value_in X q) e)
      go answer.Lost e same = ap (λ (q : PathAnswer). value_in Y q) (same ∙ e)
          ∙ sym (ap (λ (q : PathAnswer). value_in X q) e)
      go (answer.Holds z) e same =
          let c = kept-cell (path_of k) z (old-held (path_of k) z (path_of-slot k lt) e) e (same ∙ e) in
          ap (λ (q : PathAnswer). value_in Y q) (same ∙ e) ∙ ap (λ (q : Cell). Value.Bytes q.payload) c
          ∙ sym (ap (λ (q : PathAnswer). value_in X q) e)
