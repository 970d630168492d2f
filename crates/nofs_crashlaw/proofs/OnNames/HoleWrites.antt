-- Link and Make in a hole: each write is proper, and the files are those of the image.
use Rattle.std.proofs.Common.{◌≡◌, ◌≢◌, ℕ, ◌+◌, ◌-◌, ◌/◌, ◌%◌, ◌<◌, ◌≤◌, ◌⊎◌, inl, inr, Bool, true, false, eqb, List}
use Rattle.std.proofs.Common.{option_to_list, Option, Some, None}
use Rattle.std.proofs.Common.{refl, sym, ap, ◌∙◌, subst, subst₂, arith, Contains, eqb-true, eq-eqb}
use Rattle.std.proofs.lemmas.Bool.{cases_eq}
use Rattle.std.proofs.lemmas.List.Elements.{Contains-append_left}
use Rattle.nofs_crashlaw.specs.Images.Reasons.{Holes}
use Rattle.nofs_crashlaw.specs.Images.Proper.{Proper, OfPointers, OfTable, RecordProper, Unchanged, Changed}
use Rattle.nofs_crashlaw.specs.Images.Proper.{PointerProper, Same, Cut, New}
use Rattle.nofs_crashlaw.specs.Images.Moments.{during}
use Rattle.nofs_model.proofs.OnSlots.Find.{find-held}
use Rattle.nofs_model.specs.declared.image.path.PathAnswer.TheVariants as answer
use Rattle.nofs_history.specs.Meta.{Meta, Gone, Is, meta_of}
use Rattle.nofs_history.specs.Marks.{Mark}
use Rattle.nofs_history.specs.Machine.{Given}
use Rattle.nofs_disk.specs.declared.tag.Cell.{Cell}
use Rattle.nofs_inode.specs.declared.inode.FileKind.{FileKind}
use Rattle.nofs_inode.specs.declared.inode.BackLink.{BackLink}
use Rattle.nofs_disk.specs.declared.tag.Tag.{Tag}
use Rattle.nofs_disk.specs.declared.tag.Pointer.{Pointer}
use Rattle.nofs_inode.specs.declared.inode.Record.{Record}
use Rattle.nofs_disk.specs.Tag.{tag_of}
use Rattle.nofs_ptrs.specs.Cells.{pointer_at}
use Rattle.nofs_inode.specs.InodeRecords.{record_at, is_live}
use Rattle.nofs_model.specs.Geometry.{Image, is_data_block, is_inode, inode}
use Rattle.nofs_disk.specs.Disk.{cell_at}
use Rattle.nofs_model.specs.Slots.{tag_for, find, pointer, record_pointer}
use Rattle.nofs_ptrs.specs.Paths.{Path, InRecord, Under, leaf}
use Rattle.nofs_model.specs.Owners.{IsFree}
use Rattle.nofs_model.specs.declared.image.value.Value.TheVariants.{Hole}
use Rattle.nofs_crashlaw.specs.Untouched.Frames.{SameMeta}
use Rattle.nofs_crashlaw.specs.Files.Growth.{ClaimedCell}
use Rattle.nofs_crashlaw.proofs.OnFiles.Claims.{fresh-tag}
use Rattle.nofs_crashlaw.specs.Names.OldEntries.{NameWrites}
use Rattle.nofs_crashlaw.specs.Names.NewEntries.{HoleUnderLeaf, HoleWithLeaf}

abbrev meta_from : Option FileKind → ℕ → List BackLink → Meta
meta_from k size links = elim k [ None ↦ Gone | Some kind ↦ Is kind size links ]

-- the directory's record with a new pointer in place k is proper. Its meta is one that may be read, as in every image
pub grown-record-proper : (m : Mark) (given : Given) (X Y : Image) (d k : ℕ) (x : Pointer) → is_live (inode X d) ≡ true
    → Contains (m.metas d (inode X d).generation) (meta_of (inode X d)) → SameMeta X Y d
    → record_pointer (inode Y d) k ≡ x → ((n : ℕ) → n ≢ k → record_pointer (inode Y d) n ≡ record_pointer (inode X d) n)
    → m.stamps ≤ x.stamp
    → ((y : Pointer) → find X d (InRecord k) ≡ answer.Holds y → ⊥) → RecordProper (during m given) X d (inode Y d)
grown-record-proper m given X Y d k x live current meta here beside fresh empty = Changed live meta.generation meta.kind
    (subst₂ (λ (g : ℕ) (q : Meta). Contains ((during m given).metas d g) q) (sym meta.generation)
    (sym (same-meta (inode Y d) (inode X d) meta.kind meta.size meta.links))
    (Contains-append_left (m.metas d (inode X d).generation) (option_to_list (given.metas d (inode X d).generation))
    (meta_of (inode X d)) current))
    (λ n lt. go n (eqb n k) refl)
  where
    same-meta : (r q : Record) → r.kind ≡ q.kind → r.size ≡ q.size → r.links ≡ q.links → meta_of r ≡ meta_of q
    same-meta r q ek es el = ap (λ (k : Option FileKind). meta_from k r.size r.links) ek
        ∙ ap (λ (z : ℕ). meta_from q.kind z r.links) es
        ∙ ap (λ (l : List BackLink). meta_from q.kind q.size l) el

    go : (n : ℕ) (t : Bool) → eqb n k ≡ t
        → PointerProper (during m given) X d (inode Y d).generation (InRecord n) (record_pointer (inode Y d) n)
    go n true e = subst (λ (q : ℕ). PointerProper (during m given) X d (inode Y d).generation (InRecord q)
        (record_pointer (inode Y d) q))
        (sym (eqb-true n k e))
        (New (subst (λ (q : Pointer). m.stamps ≤ q.stamp) (sym here) fresh) empty)
    go n false e = Same live (sym meta.generation) tt (sym (beside n (λ q. let t = eq-eqb n k q in cc (e, t))))

-- the leaf written in place, with one new pointer, is proper
pub grown-leaf-proper : (s : ℕ) (m : Mark) (given : Given) (X Y : Image) (d i n : ℕ) (x y : Pointer)
    → is_live (inode X d) ≡ true
    → HoleUnderLeaf s X Y d i n x y → is_data_block m.image y.block ≡ true → m.stamps ≤ x.stamp
    → ((z : Pointer) → find X d (Under leaf n) ≡ answer.Holds z → ⊥)
    → Proper (during m given) X y.block (cell_at Y y.block)
grown-leaf-proper s m given X Y d i n x y live h area fresh empty =
    let hx = find-held X d leaf y h.held in
    OfPointers (record {
      area = area;
      tag = tag_for X d leaf y.stamp;
      spelled = h.tag ∙ hx.agrees.tag;
      kind = refl;
      path = leaf;
      is_slot = omega arith;
      points = refl;
      slot = refl;
      place = inl h.tag;
      pointers = λ q lt. go q (eqb q n) refl;
    })
  where
    go : (q : ℕ) (t : Bool) → eqb q n ≡ t → PointerProper (during m given) X d (inode X d).generation (Under leaf q)
        (pointer_at (cell_at Y y.block).payload q)
    go q true e = subst (λ (r : ℕ). PointerProper (during m given) X d (inode X d).generation (Under leaf r)
        (pointer_at (cell_at Y y.block).payload r))
        (sym (eqb-true q n e))
        (New (subst (λ (r : Pointer). m.stamps ≤ r.stamp) (sym h.pointer) fresh) empty)
    go q false e =
        let same : pointer X d (Under leaf q) ≡ pointer_at (cell_at X y.block).payload q = let z = h.held in
        rw (z, pointer) refl in
        Same live refl (y, h.held) (same ∙ sym (h.pointers q (λ r. let t = eq-eqb q n r in cc (e, t))))

-- a claimed leaf is proper: beside the new pointer it has nulls, where holes may be read
pub claimed-leaf-proper : (s : ℕ) (m : Mark) (given : Given) (X Y : Image) (d i n : ℕ) (x y : Pointer)
    → HoleWithLeaf s X Y d i n x y
    → is_data_block m.image y.block ≡ true → m.stamps ≤ x.stamp
    → ((q : ℕ) → q < 64 → Holes m d (inode Y d).generation (Under leaf q))
    → Proper (during m given) X y.block (cell_at Y y.block)
claimed-leaf-proper s m given X Y d i n x y h area fresh holes = OfPointers (record {
  area = area;
  tag = tag_for Y d leaf y.stamp;
  spelled = h.above.tag;
  kind = refl;
  path = leaf;
  is_slot = omega arith;
  points = refl;
  slot = refl;
  place = inr h.above.free;
  pointers = λ q lt. go q lt (eqb q n) refl;
})
  where
    empty : (z : Pointer) → find X d (Under leaf n) ≡ answer.Holds z → ⊥
    empty z e = let up = (find-held X d (Under leaf n) z e).above in let a = up.1 in let b = h.empty in cc (a, b)

    go : (q : ℕ) → q < 64 → (t : Bool)
        → eqb q n ≡ t → PointerProper (during m given) X d (inode Y d).generation (Under leaf q)
        (pointer_at (cell_at Y y.block).payload q)
    go q lt true e = subst (λ (r : ℕ). PointerProper (during m given) X d (inode Y d).generation (Under leaf r)
        (pointer_at (cell_at Y y.block).payload r))
        (sym (eqb-true q n e))
        (New (subst (λ (r : Pointer). m.stamps ≤ r.stamp) (sym h.pointer) fresh) empty)
    go q lt false e = Cut (h.pointers q (λ r. let t = eq-eqb q n r in cc (e, t)))
        (λ k range above. Contains-append_left (m.since d (inode Y d).generation k)
        (option_to_list (given.slots d (inode Y d).generation k)) Hole
        (holes q lt k range above))

-- a table cell each of whose records is that of X or that of Y, at any moment of the step
pub mixed-table-proper : (m : Mark) (X Y : Image) (b : ℕ) (c : Cell) → 0 < b → is_data_block m.image b ≡ false
    → ((j : ℕ) → is_inode m.image j ≡ true → 1 + (j - 1) / 4 ≡ b
    → (record_at c.payload ((j - 1) % 4) ≡ inode X j) ⊎ (record_at c.payload ((j - 1) % 4) ≡ inode Y j))
    → ((j : ℕ) → RecordProper m X j (inode Y j)) → Proper m X b c
mixed-table-proper m X Y b c pos area each proper = OfTable (record {
  not_super = pos;
  area = area;
  records = λ j range e. elim (each j range e) [
    | inl x ↦ Unchanged x
    | inr y ↦ subst (λ (r : Record). RecordProper m X j r) (sym y) (proper j)
  ];
})

-- the records of d and of i are all that change
pub two-records : (m : Mark) (X Y : Image) (d i : ℕ) → ((j : ℕ) → j ≢ d → j ≢ i → inode Y j ≡ inode X j)
    → RecordProper m X d (inode Y d)
    → RecordProper m X i (inode Y i) → (j : ℕ) → RecordProper m X j (inode Y j)
two-records m X Y d i others at_d at_i j = go (eqb j d) refl (eqb j i) refl
  where
    go : (a : Bool) → eqb j d ≡ a → (b : Bool) → eqb j i ≡ b → RecordProper m X j (inode Y j)
    go true ea b eb = subst (λ (q : ℕ). RecordProper m X q (inode Y q)) (sym (eqb-true j d ea)) at_d
    go false ea true eb = subst (λ (q : ℕ). RecordProper m X q (inode Y q)) (sym (eqb-true j i eb)) at_i
    go false ea false eb =
        Unchanged (others j (λ q. let t = eq-eqb j d q in cc (ea, t)) (λ q. let t = eq-eqb j i q in cc (eb, t)))

-- what a step on names may leave of block b
abbrev LeftAt : ℕ → Image → Image → ℕ → ℕ → Type 0
LeftAt s X Y d b = (cell_at Y b ≡ cell_at X b)
    ⊎ ((IsFree X b × ((t : Tag) → tag_of (cell_at Y b).tag ≡ Some t → s ≤ t.stamp))
    ⊎ ((tag_of (cell_at Y b).tag ≡ tag_of (cell_at X b).tag)
    × ((path : Path) × (z : Pointer) × (find X d path ≡ answer.Holds z) × (z.block ≡ b))))

left-claimed : (s : ℕ) (X Y : Image) (d : ℕ) (path : Path) (x : Pointer) → ClaimedCell s X Y d path x
    → LeftAt s X Y d x.block
left-claimed s X Y d path x c = inr (inl (c.free, fresh-tag s X Y d path x c))

-- the blocks of x and y are all that change
two-blocks : (s : ℕ) (X Y : Image) (d : ℕ) (x y : Pointer) → LeftAt s X Y d x.block → LeftAt s X Y d y.block
    → ((b : ℕ) → is_data_block X b ≡ true → b ≢ x.block → b ≢ y.block → cell_at Y b ≡ cell_at X b)
    → (b : ℕ) → is_data_block X b ≡ true → LeftAt s X Y d b
two-blocks s X Y d x y at_x at_y others b area = elim (cases_eq b x.block) [
  | inl e ↦ subst (LeftAt s X Y d) (sym e) at_x
  | inr nx ↦ elim (cases_eq b y.block)
      [ inl e ↦ subst (LeftAt s X Y d) (sym e) at_y | inr ny ↦ inl (others b area nx ny) ]
]

-- what is written under a leaf
pub leaf-hole-writes : (s : ℕ) (X Y : Image) (d i n : ℕ) (x y : Pointer) → HoleUnderLeaf s X Y d i n x y
    → NameWrites s d i X Y
leaf-hole-writes s X Y d i n x y h = record {
  super = h.super;
  records = λ j nd ni. h.records j ni;
  blocks = two-blocks s X Y d x y (left-claimed s X Y d (Under leaf n) x h.cell)
      (inr (inr (h.tag, (leaf, y, h.held, refl)))) h.blocks;
}

pub claimed-hole-writes : (s : ℕ) (X Y : Image) (d i n : ℕ) (x y : Pointer) → HoleWithLeaf s X Y d i n x y
    → NameWrites s d i X Y
claimed-hole-writes s X Y d i n x y h = record {
  super = h.super;
  records = h.records;
  blocks = two-blocks s X Y d x y (left-claimed s X Y d (Under leaf n) x h.cell)
      (left-claimed s X Y d leaf y h.above) h.blocks;
}
