-- A write of a step leaves every block explained, and disturbs nothing that is sure.
use Rattle.std.proofs.Common.{◌≡◌, ℕ, ◌+◌, ◌-◌, ◌/◌, ◌%◌, ◌<◌, ◌≤◌, inl, inr, true, ltb, leb, Option, Some, is_some}
use Rattle.std.proofs.Common.{sym, ap, ◌∙◌, subst, subst₂, arith, leb-true}
use Rattle.nofs_crashlaw.specs.Images.Reasons.{Holes, Explained, Emptied, Fresh, WrittenAs, RecordExplained, Fine}
use Rattle.nofs_crashlaw.specs.Images.Reasons.{FineImage, IsKept, RecordStands, Solid}
use Rattle.nofs_crashlaw.specs.Images.Reasons.{SolidImage, IsMark, KeepsPointers}
use Rattle.nofs_crashlaw.specs.Images.Proper.{PointerProper, Same, Cut, New, InPlaceOrFree, IsContentKind}
use Rattle.nofs_crashlaw.specs.Images.Proper.{ContentProper, PointersProper, RecordProper}
use Rattle.nofs_crashlaw.specs.Images.Proper.{Unchanged, Changed, Freed, Made, TableProper, Proper, OfContent}
use Rattle.nofs_crashlaw.specs.Images.Proper.{OfPointers, OfTable}
use Rattle.nofs_model.proofs.OnSlots.Find.{and-both, find-held}
use Rattle.nofs_ptrs.specs.PathLaws.{path_of-slot_of, path_of-slot}
use Rattle.nofs_model.proofs.OnSlots.Paths.{above-slot}
use Rattle.nofs_crashlaw.proofs.OnImages.Trace.{same-super, explained-record, explained}
use Rattle.nofs_crashlaw.proofs.OnImages.Steady.{kept-holds, stands-record, steady}
use Rattle.nofs_model.specs.declared.image.path.PathAnswer.TheVariants as answer
use Rattle.nofs_history.specs.Meta.{is_bytes}
use Rattle.nofs_history.specs.Marks.{Mark}
use Rattle.nofs_disk.specs.declared.tag.Cell.{Cell}
use Rattle.nofs_disk.specs.declared.tag.Kind.{Kind}
use Rattle.nofs_disk.specs.declared.tag.Kind.TheVariants.{Leaf}
use Rattle.nofs_disk.specs.declared.tag.Pointer.{Pointer}
use Rattle.nofs_disk.specs.declared.tag.Tag.{Tag}
use Rattle.nofs_inode.specs.declared.inode.FileKind.{FileKind}
use Rattle.nofs_inode.specs.declared.inode.Record.{Record}
use Rattle.nofs_disk.specs.Tag.{tag_of}
use Rattle.nofs_ptrs.specs.Cells.{pointer_at}
use Rattle.nofs_inode.specs.InodeRecords.{is_live, record_at}
use Rattle.nofs_model.specs.Geometry.{Image, super_at, is_data_block, is_inode, inode}
use Rattle.nofs_disk.specs.Disk.{cell_at}
use Rattle.nofs_ptrs.specs.Paths.{Path, InRecord, Under, path_of, slot_of, IsSlot}
use Rattle.nofs_model.specs.Slots.{kind_in, tag_for, record_pointer, find, pointer}
use Rattle.nofs_model.specs.Files.{files_in, agreed}
use Rattle.nofs_model.specs.declared.image.value.Value.TheVariants.{Hole}

kept-slot : (m : Mark) (i g : ℕ) (path : Path) → IsKept m i g path → IsSlot path
kept-slot m i g path k = above-slot path (path_of k.slot) k.above (path_of-slot k.slot k.range)

-- a kept slot has no hole
no-hole : (m : Mark) (i g : ℕ) (path : Path) → IsKept m i g path → Holes m i g path → ⊥
no-hole m i g path k holes = let e : is_bytes Hole ≡ true = k.sure Hole (holes k.slot k.range k.above) in cc e

is_some-some : (o : Option FileKind) (p : Option FileKind) → o ≡ p → is_some p ≡ true → is_some o ≡ true
is_some-some o p e h = rw e h

module _ (m : Mark) (X : Image) (h : IsMark m) (fine : FineImage m X) (solid : SolidImage m X)
    (tracked : (i g : ℕ) → m.stands i g ≡ true
    → agreed (files_in X) i ≡ true) where
  super : cell_at X 0 ≡ cell_at m.image 0
  super = same-super m X h fine

  still : KeepsPointers m X
  still = steady m h X super solid

  not-first : (b : ℕ) → is_data_block m.image b ≡ true → 0 < b
  not-first b area = let first = leb-true (1 + (super_at m.image).inodes / 4) b
      (and-both (leb (1 + (super_at m.image).inodes / 4) b) (ltb b (super_at m.image).blocks) area).0 in
      omega (arith, first)

  not-table : (b i : ℕ) → is_data_block m.image b ≡ true → is_inode m.image i ≡ true → 1 + (i - 1) / 4 ≡ b → ⊥
  not-table b i area range e =
      let first = leb-true (1 + (super_at m.image).inodes / 4) b
      (and-both (leb (1 + (super_at m.image).inodes / 4) b) (ltb b (super_at m.image).blocks) area).0 in
      let both = and-both (leb 1 i) (leb i (super_at m.image).inodes) range in
      let low : 1 ≤ i = leb-true 1 i both.0 in
      let high : i ≤ (super_at m.image).inodes = leb-true i (super_at m.image).inodes both.1 in
      let q = h.quarters in
      omega (arith, first, low, high, e, q)

  pointer-explained : (i g : ℕ) (path : Path) (x : Pointer) → IsSlot path → PointerProper m X i g path x
      → Explained m i g path x
  pointer-explained i g path x s (Same live gen above same) =
      subst₂ (λ (q : ℕ) (w : Pointer). Explained m i q path w) gen same (explained m X h fine i path s live above)
  pointer-explained i g path x s (Cut z holes) = Emptied z holes
  pointer-explained i g path x s (New le none) = Fresh le

  -- a kept slot has the mark's pointer in X
  same-pointer : (i g : ℕ) (path : Path) → IsKept m i g path → pointer X i path ≡ pointer m.image i path
  same-pointer i g path k =
      let held = kept-holds m h i g path k in
      let x : find X i path ≡ answer.Holds held.0 = still i g path k ∙ held.1 in
      (find-held X i path held.0 x).same ∙ sym (find-held m.image i path held.0 held.1).same

  kept-pointer : (i g : ℕ) (path : Path) (x : Pointer) → IsKept m i g path → PointerProper m X i g path x
      → x ≡ pointer m.image i path
  kept-pointer i g path x k (Same live gen above same) = sym same ∙ same-pointer i g path k
  kept-pointer i g path x k (Cut z holes) = absurd (no-hole m i g path k holes)
  kept-pointer i g path x k (New le none) =
      let held = kept-holds m h i g path k in
      absurd (none held.0 (still i g path k ∙ held.1))

  -- what a kept slot names isn't free
  place-tag : (i g : ℕ) (path : Path) (x : Pointer) (b : ℕ) (c : Cell) → InPlaceOrFree X b c → IsKept m i g path
      → find m.image i path ≡ answer.Holds x
      → x.block ≡ b → tag_of c.tag ≡ tag_of (cell_at m.image b).tag
  place-tag i g path x b c (inl same) k e eb = same ∙ ((solid b).block i g path x k e eb).tag
  place-tag i g path x b c (inr free) k e eb =
      absurd (free i path x (kept-slot m i g path k) (tracked i g k.stands) (still i g path k ∙ e) eb)

  -- and what is written there has the tag of the kept slot
  kept-tag : (i g : ℕ) (path : Path) (x : Pointer) (b : ℕ) (c : Cell) (t : Tag) → tag_of c.tag ≡ Some t
      → InPlaceOrFree X b c → IsKept m i g path → find m.image i path ≡ answer.Holds x → x.block ≡ b
      → Some t ≡ Some (tag_for m.image i path x.stamp)
  kept-tag i g path x b c t spelled place k e eb = sym spelled ∙ place-tag i g path x b c place k e eb
      ∙ subst (λ (q : ℕ). tag_of (cell_at m.image q).tag ≡ Some (tag_for m.image i path x.stamp)) eb
      (find-held m.image i path x e).agrees.tag

  content-fine : (b : ℕ) (c : Cell) → ContentProper m X b c → Fine m b c
  content-fine b c w = inr (record {
    not_super = not-first b w.area;
    block = λ area. (w.tag, w.spelled, given w.tag.kind w.kind);
    table = λ i range e live. absurd (not-table b i w.area range e);
  })
    where
      given : (q : Kind) → IsContentKind q → WrittenAs m q w.tag c.payload
      given q (inl e) = rw e w.given
      given q (inr e) = rw e w.given

  content-solid : (b : ℕ) (c : Cell) → ContentProper m X b c → Solid m b c
  content-solid b c w = record {
    table = λ i g s range e. absurd (not-table b i w.area range e);
    block = λ i g path x k e eb. record {
      tag = place-tag i g path x b c w.place k e eb;
      pointers = λ n kn. absurd (no-pointers i g path x k e eb n kn);
    };
  }
    where
      no-pointers : (i g : ℕ) (path : Path) (x : Pointer) → IsKept m i g path → find m.image i path ≡ answer.Holds x
          → x.block ≡ b → (n : ℕ)
          → IsKept m i g (Under path n) → ⊥
      no-pointers i g path x k e eb n kn =
          let s = kept-slot m i g (Under path n) kn in
          let t1 = kept-tag i g path x b c w.tag w.spelled w.place k e eb in
          let k1 : w.tag.kind ≡ kind_in (inode m.image i) path = cc t1 in
          let k2 : kind_in (inode m.image i) path ≡ Leaf = rw s.0 in
          elim w.kind [ inl a ↦ cc (a, k1, k2) | inr a ↦ cc (a, k1, k2) ]

  pointers-fine : (b : ℕ) (c : Cell) → PointersProper m X b c → Fine m b c
  pointers-fine b c w = inr (record {
    not_super = not-first b w.area;
    block = λ area. (
      w.tag,
      w.spelled,
      rw w.kind (λ n lt. rw (at-path)
          (pointer-explained w.tag.inode w.tag.generation (Under w.path n) (pointer_at c.payload n)
          (w.points, lt, w.is_slot) (w.pointers n lt))),
    );
    table = λ i range e live. absurd (not-table b i w.area range e);
  })
    where
      at-path : path_of w.tag.slot ≡ w.path
      at-path = ap path_of w.slot ∙ path_of-slot_of w.path w.is_slot

  pointers-solid : (b : ℕ) (c : Cell) → PointersProper m X b c → Solid m b c
  pointers-solid b c w = record {
    table = λ i g s range e. absurd (not-table b i w.area range e);
    block = λ i g path x k e eb. record {
      tag = place-tag i g path x b c w.place k e eb;
      pointers = λ n kn. each i g path x k e eb n kn;
    };
  }
    where
      each : (i g : ℕ) (path : Path) (x : Pointer) → IsKept m i g path → find m.image i path ≡ answer.Holds x
          → x.block ≡ b → (n : ℕ)
          → IsKept m i g (Under path n) → pointer_at c.payload n ≡ pointer_at (cell_at m.image b).payload n
      each i g path x k e eb n kn =
          let s = kept-slot m i g (Under path n) kn in
          let t1 = kept-tag i g path x b c w.tag w.spelled w.place k e eb in
          let ei : w.tag.inode ≡ i = cc t1 in
          let eg0 : w.tag.generation ≡ (inode m.image i).generation = cc t1 in
          let eg : w.tag.generation ≡ g = eg0 ∙ h.stood_generation i g k.stands in
          let es0 : w.tag.slot ≡ slot_of path = cc t1 in
          let es : slot_of w.path ≡ slot_of path = sym w.slot ∙ es0 in
          let ep : w.path ≡ path = sym (path_of-slot_of w.path w.is_slot) ∙ ap path_of es ∙ path_of-slot_of path s.2 in
          let p0 : PointerProper m X w.tag.inode w.tag.generation (Under w.path n) (pointer_at c.payload n) =
          w.pointers n s.1 in
          let p1 : PointerProper m X i g (Under path n) (pointer_at c.payload n) =
          subst₂ (λ (q : ℕ) (r : ℕ). PointerProper m X q r (Under path n) (pointer_at c.payload n)) ei eg
          (subst (λ (q : Path). PointerProper m X w.tag.inode w.tag.generation (Under q n)
          (pointer_at c.payload n)) ep p0) in
          let same : pointer m.image i (Under path n) ≡ pointer_at (cell_at m.image x.block).payload n =
          rw (e, pointer) in
          let same' : pointer m.image i (Under path n) ≡ pointer_at (cell_at m.image b).payload n =
          subst (λ (q : ℕ). pointer m.image i (Under path n) ≡ pointer_at (cell_at m.image q).payload n) eb same in
          kept-pointer i g (Under path n) (pointer_at c.payload n) kn p1 ∙ same'

  record-explained : (i : ℕ) (r : Record) → RecordProper m X i r → is_live r ≡ true → RecordExplained m i r
  record-explained i r (Unchanged e) live =
      subst (λ (q : Record). RecordExplained m i q) (sym e)
      (explained-record m X h fine i (subst (λ (q : Record). is_live q ≡ true) e live))
  record-explained i r (Changed liveX gen kind meta pointers) live =
      let rx = explained-record m X h fine i liveX in
      record {
        meta = meta;
        kind = λ lm gm. rx.kind lm (gm ∙ gen) ∙ sym kind;
        pointers = λ n lt. pointer-explained i r.generation (InRecord n) (record_pointer r n) lt (pointers n lt);
      }
  record-explained i r (Freed dead gone) live = absurd (cc (dead, live))
  record-explained i r (Made young none meta nulls holes) live = record {
    meta = meta;
    kind = λ lm gm. absurd (old lm gm);
    pointers = λ n lt. Emptied (nulls n lt) (λ k lk above. holes k lk);
  }
    where
      old : is_live (inode m.image i) ≡ true → (inode m.image i).generation ≡ r.generation → ⊥
      old lm gm = let y = h.young i lm in omega (arith, y, gm, young)

  record-stands : (i g : ℕ) (r : Record) → m.stands i g ≡ true → RecordProper m X i r → RecordStands m i g r
  record-stands i g r s (Unchanged e) =
      subst (λ (q : Record). RecordStands m i g q) (sym e) (stands-record m h X super solid i g s)
  record-stands i g r s (Changed liveX gen kind meta pointers) =
      let rs = stands-record m h X super solid i g s in
      let eg : r.generation ≡ g = gen ∙ rs.generation in
      record {
        live = is_some-some r.kind (inode X i).kind kind liveX;
        generation = eg;
        kind = kind ∙ rs.kind;
        pointers = λ n kn. kept-pointer i g (InRecord n) (record_pointer r n) kn
            (subst (λ (q : ℕ). PointerProper m X i q (InRecord n) (record_pointer r n)) eg
            (pointers n (kept-slot m i g (InRecord n) kn)));
      }
  record-stands i g r s (Freed dead gone) = absurd (cc (s, gone g))
  record-stands i g r s (Made young none meta nulls holes) = absurd (cc (s, none g))

  table-fine : (b : ℕ) (c : Cell) → TableProper m X b c → Fine m b c
  table-fine b c w = inr (record {
    not_super = w.not_super;
    block = λ area. absurd (cc (area, w.area));
    table = λ i range e live. record-explained i (record_at c.payload ((i - 1) % 4)) (w.records i range e) live;
  })

  table-solid : (b : ℕ) (c : Cell) → TableProper m X b c → Solid m b c
  table-solid b c w = record {
    table = λ i g s range e. record-stands i g (record_at c.payload ((i - 1) % 4)) s (w.records i range e);
    block = λ i g path x k e eb. absurd (off-table i path x e eb);
  }
    where
      off-table : (i : ℕ) (path : Path) (x : Pointer) → find m.image i path ≡ answer.Holds x → x.block ≡ b → ⊥
      off-table i path x e eb =
          let hm = find-held m.image i path x e in
          let a : is_data_block m.image b ≡ true =
          subst (λ (q : ℕ). is_data_block m.image q ≡ true) eb hm.agrees.area in
          cc (a, w.area)

  proper : (b : ℕ) (c : Cell) → Proper m X b c → Fine m b c × Solid m b c
  proper b c (OfContent w) = (content-fine b c w, content-solid b c w)
  proper b c (OfPointers w) = (pointers-fine b c w, pointers-solid b c w)
  proper b c (OfTable w) = (table-fine b c w, table-solid b c w)

pub writes-proper : (m : Mark) (X : Image) → IsMark m → FineImage m X → SolidImage m X
    → ((i g : ℕ) → m.stands i g ≡ true → agreed (files_in X) i ≡ true)
    → (b : ℕ) (c : Cell) → Proper m X b c → Fine m b c × Solid m b c
writes-proper m X h fine solid tracked b c w = proper m X h fine solid tracked b c w
