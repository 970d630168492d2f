-- Each write of a step on a file is proper.
use Rattle.std.proofs.Common.{◌≡◌, ◌≢◌, ℕ, ◌<◌, ◌≤◌, inl, inr, Bool, true, false, eqb, ◌++◌, option_to_list, Option}
use Rattle.std.proofs.Common.{Some, None, refl, sym, ap, ◌∙◌, subst, subst₂, Contains, eqb-true, eq-eqb}
use Rattle.std.proofs.lemmas.List.Elements.{Contains-push, Contains-append_left}
use Rattle.nofs_inode.specs.declared.inode.FileKind.TheVariants.{File, Directory as Folder}
use Rattle.nofs_disk.specs.declared.tag.Kind.TheVariants.{Content, Directory, Leaf}
use Rattle.nofs_disk.specs.declared.tag.Pointer.{Pointer}
use Rattle.nofs_inode.specs.declared.inode.Record.{Record}
use Rattle.nofs_disk.specs.Tag.{tag_of}
use Rattle.nofs_ptrs.specs.Cells.{pointer_at}
use Rattle.nofs_model.specs.Geometry.{Image, inode}
use Rattle.nofs_disk.specs.Disk.{cell_at}
use Rattle.nofs_ptrs.specs.Paths.{Path, InRecord, Under, path_of, slot_of}
use Rattle.nofs_model.specs.Slots.{kind_in, tag_for, find, pointer, record_pointer, IsAbove}
use Rattle.nofs_model.specs.declared.image.path.PathAnswer.TheVariants as answer
use Rattle.nofs_model.specs.declared.image.value.Value.{Value}
use Rattle.nofs_model.specs.declared.image.value.Value.TheVariants.{Hole, Bytes}
use Rattle.nofs_model.proofs.OnSlots.Find.{find-held}
use Rattle.nofs_model.proofs.OnSlots.Paths.{path_of-content}
use Rattle.nofs_ptrs.specs.PathLaws.{slot_of-path_of}
use Rattle.nofs_history.specs.Meta.{Meta, meta_of}
use Rattle.nofs_history.specs.Marks.{Mark}
use Rattle.nofs_history.specs.Machine.{Given}
use Rattle.nofs_crashlaw.specs.Images.Reasons.{Holes}
use Rattle.nofs_crashlaw.specs.Images.Proper.{IsContentKind, Proper, OfContent, OfPointers, Changed, PointerProper}
use Rattle.nofs_crashlaw.specs.Images.Proper.{Same, Cut, New}
use Rattle.nofs_crashlaw.specs.Images.Moments.{during}
use Rattle.nofs_crashlaw.specs.Files.Growth.{Grows}
use Rattle.nofs_crashlaw.proofs.OnFiles.Given.{content-kind}
use Rattle.nofs_crashlaw.proofs.OnFiles.Claims.{holes-under}
use Rattle.nofs_crashlaw.proofs.OnFiles.Growth.{one-way}
use Rattle.nofs_crashlaw.specs.Files.Writes.{LawContent, PointersLie, LawPointerBlock, LawRecord}

pub law-content : LawContent
law-content m given X Y i g k x c p = OfContent (record {
  area = p.area;
  tag = tag_for Y i (path_of k) x.stamp;
  spelled = p.tag;
  kind = is-content;
  given = subst₂ (λ (h l : ℕ). Contains ((during m given).since i h l) (Bytes c.payload)) (sym p.generation)
      (sym (slot_of-path_of k p.range)) has;
  place = p.place;
})
  where
    is-content : IsContentKind (kind_in (inode Y i) (path_of k))
    is-content =
        let e : kind_in (inode Y i) (path_of k) ≡ elim (inode Y i).kind [
          | None ↦ Content
          | Some kind ↦ elim kind [ File ↦ Content | Folder ↦ Directory ]
        ] =
        rw (path_of-content k p.range) refl in
        subst IsContentKind (sym e) (content-kind (inode Y i).kind)

    has : Contains ((during m given).since i g k) (Bytes c.payload)
    has = subst (λ (o : Option Value). Contains (m.since i g k ++ option_to_list o) (Bytes c.payload)) (sym p.gives)
        (Contains-push (m.since i g k) (Bytes c.payload))

-- what may be read as a hole still may when more is given
holes-more : (m : Mark) (given : Given) (i g : ℕ) (a : Path) → Holes m i g a → Holes (during m given) i g a
holes-more m given i g a h k lt above =
    Contains-append_left (m.since i g k) (option_to_list (given.slots i g k)) Hole (h k lt above)

module _ (s : ℕ) (m : Mark) (given : Given) (X Y : Image) (i : ℕ) (b : Path) (n : ℕ) (p : Path) (at : Path → Pointer)
    (r : Grows s X Y i p at)
    (l : PointersLie m X Y i b n p at) where
  leaf-kind : (q : Record) → kind_in q b ≡ Leaf
  leaf-kind q = let e = l.points in rw e refl

  -- in place, its tag is that of X
  in-place : find X i b ≡ answer.Holds (at b)
      → tag_of (cell_at Y (at b).block).tag ≡ tag_of (cell_at X (at b).block).tag
  in-place e =
      let h = find-held X i b (at b) e in
      let t : tag_for Y i b (at b).stamp ≡ tag_for X i b (at b).stamp =
      λ j. record {
        kind = (leaf-kind (inode Y i) ∙ sym (leaf-kind (inode X i))) j;
        inode = i;
        generation = l.generation j;
        slot =
            slot_of b;
        stamp = (at b).stamp;
      } in
      r.tag b l.above ∙ ap Some t ∙ sym h.agrees.tag

  -- a place beside the next one
  beside : (q : ℕ) → q < 64 → q ≢ n → PointerProper (during m given) X i (inode Y i).generation (Under b q)
      (pointer_at (cell_at Y (at b).block).payload q)
  beside q lt ne = elim (r.beside b q (l.points, lt, l.slot) l.above (apart q ne)) [
    | inl kept ↦
        let px : pointer X i (Under b q) ≡ pointer_at (cell_at X (at b).block).payload q = let z = kept.0 in
        rw (z, pointer) refl in
        Same l.live (sym l.generation) (at b, kept.0) (px ∙ sym kept.1)
    | inr new ↦
        let h : Holes m i (inode X i).generation (Under b q) = holes-under m X i b l.reads l.live new.0 q in
        Cut new.1 (subst (λ (g : ℕ). Holes (during m given) i g (Under b q)) (sym l.generation)
        (holes-more m given i (inode X i).generation (Under b q) h))
  ]
    where
      -- two places under one slot are not both on the path
      apart : (q : ℕ) → q ≢ n → IsAbove (Under b q) p → ⊥
      apart q ne h = ne (one-way p b q n h l.on)

  -- the next one
  here : PointerProper (during m given) X i (inode Y i).generation (Under b n)
      (pointer_at (cell_at Y (at b).block).payload n)
  here = elim l.next [
    | inl held ↦
        let h = find-held X i (Under b n) (at (Under b n)) held in
        Same l.live (sym l.generation) h.above (h.same ∙ sym (r.placed (Under b n) l.on))
    | inr new ↦ New (subst (λ (x : Pointer). m.stamps ≤ x.stamp) (sym (r.placed (Under b n) l.on)) new.0) new.1
  ]

  pub pointers-proper : Proper (during m given) X (at b).block (cell_at Y (at b).block)
  pointers-proper = OfPointers (record {
    area = l.area;
    tag = tag_for Y i b (at b).stamp;
    spelled = r.tag b l.above;
    kind = leaf-kind (inode Y i);
    path = b;
    is_slot = l.slot;
    points = l.points;
    slot = refl;
    place = elim l.block [ inl held ↦ inl (in-place held) | inr claimed ↦ inr claimed.1 ];
    pointers = λ q lt. go q lt (eqb q n) refl;
  })
    where
      go : (q : ℕ) → q < 64 → (t : Bool)
          → eqb q n ≡ t → PointerProper (during m given) X i (inode Y i).generation (Under b q)
          (pointer_at (cell_at Y (at b).block).payload q)
      go q lt true e = subst (λ (z : ℕ). PointerProper (during m given) X i (inode Y i).generation (Under b z)
          (pointer_at (cell_at Y (at b).block).payload z)) (sym (eqb-true q n e)) here
      go q lt false e = beside q lt (λ z. let t = eq-eqb q n z in cc (e, t))

pub law-pointer-block : LawPointerBlock
law-pointer-block s m given X Y i b n p at r l = pointers-proper s m given X Y i b n p at r l

pub law-record : LawRecord
law-record m given X i r p = Changed p.live p.generation p.kind meta pointers
  where
    meta : Contains ((during m given).metas i r.generation) (meta_of r)
    meta = elim p.meta [
      | inl same ↦
          let old : Contains (m.metas i r.generation) (meta_of r) =
          subst₂ (λ (g : ℕ) (q : Meta). Contains (m.metas i g) q) (sym p.generation) (sym same)
          (p.reads.metas i p.live) in
          Contains-append_left (m.metas i r.generation) (option_to_list (given.metas i r.generation)) (meta_of r) old
      | inr new ↦
          subst (λ (o : Option Meta). Contains (m.metas i r.generation ++ option_to_list o) (meta_of r)) (sym new)
          (Contains-push (m.metas i r.generation) (meta_of r))
    ]

    pointers : (n : ℕ) → n < 10 → PointerProper (during m given) X i r.generation (InRecord n) (record_pointer r n)
    pointers n lt = elim (p.pointers n lt) [
      | inl same ↦ Same p.live (sym p.generation) tt (sym same)
      | inr q ↦ elim q [ inl new ↦ New new.0 new.1 | inr cut ↦ Cut cut.0 cut.1 ]
    ]
