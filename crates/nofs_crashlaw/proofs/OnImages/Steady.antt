-- What is sure at the mark stays in every image, as long as no write disturbs it.
use Rattle.std.proofs.Common.{◌≡◌, ℕ, ◌+◌, ◌-◌, ◌/◌, ◌%◌, inl, inr, Bool, true, false, cond, Some, refl, sym, ap, ◌∙◌}
use Rattle.std.proofs.Common.{subst}
use Rattle.nofs_model.specs.declared.image.path.PathAnswer.{PathAnswer}
use Rattle.nofs_crashlaw.specs.Images.Reasons.{IsKept, RecordStands, SolidImage, IsMark, KeepsSure, KeepsPointers}
use Rattle.nofs_model.proofs.OnSlots.Find.{find-held, find-built, agrees-built}
use Rattle.nofs_model.proofs.OnSlots.Paths.{above-refl, above-up}
use Rattle.nofs_model.specs.declared.image.path.PathAnswer.TheVariants as answer
use Rattle.nofs_history.specs.Meta.{is_bytes}
use Rattle.nofs_history.specs.Marks.{Mark}
use Rattle.nofs_disk.specs.declared.tag.Cell.{Cell}
use Rattle.nofs_disk.specs.declared.tag.Pointer.{Pointer}
use Rattle.nofs_disk.specs.Tag.{tag_of}
use Rattle.nofs_ptrs.specs.Cells.{pointer_at}
use Rattle.nofs_inode.specs.InodeRecords.{is_live, record_at, free_record}
use Rattle.nofs_super.specs.Super.{super_in}
use Rattle.nofs_model.specs.Geometry.{Image, super_at, is_data_block, is_inode, inode}
use Rattle.nofs_disk.specs.Disk.{cell_at}
use Rattle.nofs_ptrs.specs.Paths.{Path, InRecord, Under, path_of}
use Rattle.nofs_model.specs.Slots.{tag_for, find, pointer, value, value_in, IsAbove, AboveHolds}
use Rattle.nofs_model.specs.declared.image.value.Value.TheVariants.{Bytes}

-- a slot that holds has those above it hold
above-held : (X : Image) (i : ℕ) (a p : Path) → IsAbove a p → (x : Pointer) → find X i p ≡ answer.Holds x
    → (y : Pointer) × (find X i a ≡ answer.Holds y)
above-held X i a (InRecord n) e x h = (x, subst (λ (w : Path). find X i w ≡ answer.Holds x) (sym e) h)
above-held X i a (Under b n) (inl e) x h = (x, subst (λ (w : Path). find X i w ≡ answer.Holds x) (sym e) h)
above-held X i a (Under b n) (inr r) x h =
    let hx = find-held X i (Under b n) x h in
    above-held X i a b r hx.above.0 hx.above.1

pub kept-up : (m : Mark) (i g : ℕ) (a : Path) (n : ℕ) → IsKept m i g (Under a n) → IsKept m i g a
kept-up m i g a n k = record {
  stands = k.stands;
  slot = k.slot;
  range = k.range;
  sure = k.sure;
  above = above-up a n (path_of k.slot) k.above;
}

module _ (m : Mark) (h : IsMark m) where
  held-of : (f : PathAnswer) → is_bytes (value_in m.image f) ≡ true → (x : Pointer) × (f ≡ answer.Holds x)
  held-of answer.Hole e = cc
  held-of answer.Lost e = cc
  held-of (answer.Holds x) e = (x, refl)

  -- a kept slot holds at the mark
  pub kept-holds : (i g : ℕ) (path : Path) → IsKept m i g path → (y : Pointer) × (find m.image i path ≡ answer.Holds y)
  kept-holds i g path k =
      let b : is_bytes (value m.image i k.slot) ≡ true =
      k.sure (value m.image i k.slot) (h.stood_values i g k.slot k.stands k.range) in
      let held = held-of (find m.image i (path_of k.slot)) b in
      above-held m.image i path (path_of k.slot) k.above held.0 held.1

  pub in-range : (i : ℕ) → is_live (inode m.image i) ≡ true → is_inode m.image i ≡ true
  unfolding inode
  in-range i l = go (is_inode m.image i) l
    where
      go : (b : Bool) → is_live
          (cond b (record_at (cell_at m.image (1 + (i - 1) / 4)).payload ((i - 1) % 4)) free_record) ≡ true → b ≡ true
      go true e = refl
      go false e = cc

  module _ (X : Image) (super : cell_at X 0 ≡ cell_at m.image 0) (solid : SolidImage m X) where
    same-numbers : super_at X ≡ super_at m.image
    unfolding super_at
    same-numbers = ap (λ (c : Cell). super_in c.payload) super

    pub stands-record : (i g : ℕ) → m.stands i g ≡ true → RecordStands m i g (inode X i)
    unfolding inode
    stands-record i g s =
        let r : is_inode m.image i ≡ true = in-range i (h.stood i g s) in
        let rx : is_inode X i ≡ true = rw same-numbers r in
        rw rx ((solid (1 + (i - 1) / 4)).table i g s r refl)

    -- a slot whose pointer is the mark's holds as at the mark
    holds-again : (i g : ℕ) (path : Path) (x : Pointer) → IsKept m i g path → find m.image i path ≡ answer.Holds x
        → AboveHolds X i path
        → pointer X i path ≡ pointer m.image i path → find X i path ≡ answer.Holds x
    holds-again i g path x k e above same =
        let hm = find-held m.image i path x e in
        let r = stands-record i g k.stands in
        let gens : (inode m.image i).generation ≡ (inode X i).generation = h.stood_generation i g k.stands
        ∙ sym r.generation in
        let tags : tag_for X i path x.stamp ≡ tag_for m.image i path x.stamp = rw (r.kind, gens) in
        let tag : tag_of (cell_at X x.block).tag ≡ Some (tag_for X i path x.stamp) =
        ((solid x.block).block i g path x k e refl).tag ∙ hm.agrees.tag
        ∙ ap Some (sym tags) in
        let area : is_data_block X x.block ≡ true = rw same-numbers hm.agrees.area in
        find-built X i path x above (same ∙ hm.same)
        (agrees-built X i path x (record { live = r.live; area = area; tag = tag })) hm.not_null

    pub steady-held : (i g : ℕ) (path : Path) (x : Pointer) → IsKept m i g path → find m.image i path ≡ answer.Holds x
        → find X i path ≡ answer.Holds x
    steady-held i g (InRecord n) x k e =
        holds-again i g (InRecord n) x k e tt ((stands-record i g k.stands).pointers n k)
    steady-held i g (Under a n) x k e =
        let hm = find-held m.image i (Under a n) x e in
        let y = hm.above.0 in
        let em : find m.image i a ≡ answer.Holds y = hm.above.1 in
        let ex : find X i a ≡ answer.Holds y = steady-held i g a y (kept-up m i g a n k) em in
        let same : pointer_at (cell_at X y.block).payload n ≡ pointer_at (cell_at m.image y.block).payload n =
        ((solid y.block).block i g a y (kept-up m i g a n k) em refl).pointers n k in
        holds-again i g (Under a n) x k e (y, ex) (rw (ex, em, pointer) same)

    pub steady : KeepsPointers m X
    steady i g path k =
        let held = kept-holds i g path k in
        steady-held i g path held.0 k held.1 ∙ sym held.1

    keeps : KeepsSure m X
    keeps = record {
      records = λ i g s. ((stands-record i g s).live, (stands-record i g s).generation);
      values = λ i g k s r sure lost.
          let k' : IsKept m i g (path_of k) =
          record { stands = s; slot = k; range = r; sure = sure; above = above-refl (path_of k) } in
          let held = kept-holds i g (path_of k) k' in
          let ex : find X i (path_of k) ≡ answer.Holds held.0 = steady-held i g (path_of k) held.0 k' held.1 in
          let v : value X i k ≡ Bytes (cell_at X held.0.block).payload = ap (λ (f : PathAnswer). value_in X f) ex in
          absurd (cc (v, lost));
    }

pub solid-steady : (m : Mark) (X : Image) → IsMark m → cell_at X 0 ≡ cell_at m.image 0 → SolidImage m X
    → KeepsPointers m X
solid-steady m X h super solid = steady m h X super solid

pub solid-keeps : (m : Mark) (X : Image) → IsMark m → cell_at X 0 ≡ cell_at m.image 0 → SolidImage m X → KeepsSure m X
solid-keeps m X h super solid = keeps m h X super solid
