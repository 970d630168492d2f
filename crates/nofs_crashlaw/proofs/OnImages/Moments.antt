-- What is explained stays explained as more is given.
use Rattle.std.proofs.Common.{◌≡◌, ℕ, inl, inr, true, not, List, option_to_list, length, ◌+◌, ◌-◌, ◌/◌, ◌%◌, refl, sym}
use Rattle.std.proofs.Common.{◌∙◌, subst, arith, Contains}
use Rattle.std.proofs.lemmas.Bool.{cases_lt}
use Rattle.std.proofs.lemmas.List.{get_or_past}
use Rattle.std.proofs.lemmas.List.Elements.{Contains-append_left}
use Rattle.nofs_disk.specs.Disk.{Picks, no_cell, cell_at}
use Rattle.nofs_crashlaw.specs.Images.Reasons.{Holes, Explained, Emptied, Fresh, Kept, WrittenAs, RecordExplained}
use Rattle.nofs_crashlaw.specs.Images.Reasons.{Fine, IsKept, RecordStands, Solid, IsMark, FineImage, SolidImage}
use Rattle.nofs_crashlaw.specs.Images.Moments.{is_removal, during, AllExplained, LawFlush, LawMoment, LawImages}
use Rattle.nofs_model.proofs.OnSlots.Find.{and-both}
use Rattle.nofs_crashlaw.proofs.OnImages.Trace.{reads, same-super}
use Rattle.nofs_crashlaw.proofs.OnImages.Steady.{solid-keeps, solid-steady}
use Rattle.nofs_crashlaw.proofs.OnImages.Writes.{writes-proper}
use Rattle.nofs_history.specs.Meta.{Meta, meta_of, MayRead}
use Rattle.nofs_history.specs.Marks.{Mark}
use Rattle.nofs_history.specs.Machine.{Given}
use Rattle.nofs_disk.specs.declared.tag.Cell.{Cell}
use Rattle.nofs_disk.specs.declared.tag.Kind.{Kind}
use Rattle.nofs_disk.specs.declared.tag.Kind.TheVariants.{Nothing, Content, Directory, Leaf, Table, Super}
use Rattle.nofs_disk.specs.declared.tag.Tag.{Tag}
use Rattle.nofs_disk.specs.declared.tag.Pointer.{Pointer}
use Rattle.nofs_inode.specs.declared.inode.Record.{Record}
use Rattle.nofs_ptrs.specs.Cells.{pointer_at}
use Rattle.nofs_inode.specs.InodeRecords.{record_at}
use Rattle.nofs_model.specs.Geometry.{Image, inode, is_inode}
use Rattle.nofs_ptrs.specs.Paths.{Path, InRecord, Under, path_of}
use Rattle.nofs_model.specs.declared.image.value.Value.{Value}
use Rattle.nofs_model.specs.declared.image.value.Value.TheVariants.{Hole, Bytes}

module _ (m : Mark) (given : Given) where
  more : (i g k : ℕ) (v : Value) → Contains (m.since i g k) v → Contains ((during m given).since i g k) v
  more i g k v c = Contains-append_left (m.since i g k) (option_to_list (given.slots i g k)) v c

  more-metas : (i g : ℕ) (v : Meta) → Contains (m.metas i g) v → Contains ((during m given).metas i g) v
  more-metas i g v c = Contains-append_left (m.metas i g) (option_to_list (given.metas i g)) v c

  fewer : (i g : ℕ) → (during m given).stands i g ≡ true → m.stands i g ≡ true
  fewer i g e = (and-both (m.stands i g) (not (is_removal (given.metas i g))) e).0

  holes-more : (i g : ℕ) (path : Path) → Holes m i g path → Holes (during m given) i g path
  holes-more i g path h = λ k lt above. more i g k Hole (h k lt above)

  explained-more : (i g : ℕ) (path : Path) (x : Pointer) → Explained m i g path x
      → Explained (during m given) i g path x
  explained-more i g path x (Emptied z h) = Emptied z (holes-more i g path h)
  explained-more i g path x (Fresh le) = Fresh le
  explained-more i g path x (Kept f) =
      Kept (record { live = f.live; generation = f.generation; above = f.above; same = f.same })

  written-more : (q : Kind) (t : Tag) (payload : List ℕ) → WrittenAs m q t payload
      → WrittenAs (during m given) q t payload
  written-more Leaf t payload w =
      λ n lt. explained-more t.inode t.generation (Under (path_of t.slot) n) (pointer_at payload n) (w n lt)
  written-more Content t payload w = more t.inode t.generation t.slot (Bytes payload) w
  written-more Directory t payload w = more t.inode t.generation t.slot (Bytes payload) w
  written-more Nothing t payload w = w
  written-more Table t payload w = w
  written-more Super t payload w = w

  record-more : (i : ℕ) (r : Record) → RecordExplained m i r → RecordExplained (during m given) i r
  record-more i r w = record {
    meta = more-metas i r.generation (meta_of r) w.meta;
    kind = w.kind;
    pointers = λ p lt. explained-more i r.generation (InRecord p) _ (w.pointers p lt);
  }

  fine-more : (b : ℕ) (c : Cell) → Fine m b c → Fine (during m given) b c
  fine-more b c (inl e) = inl e
  fine-more b c (inr w) = inr (record {
    not_super = w.not_super;
    block = λ area. let t = w.block area in (t.0, t.1, written-more t.0.kind t.0 c.payload t.2);
    table = λ i range e live. record-more i (record_at c.payload _) (w.table i range e live);
  })

  kept-less : (i g : ℕ) (path : Path) → IsKept (during m given) i g path → IsKept m i g path
  kept-less i g path k = record {
    stands = fewer i g k.stands;
    slot = k.slot;
    range = k.range;
    sure = λ v c. k.sure v (more i g k.slot v c);
    above = k.above;
  }

  solid-more : (b : ℕ) (c : Cell) → Solid m b c → Solid (during m given) b c
  solid-more b c s = record {
    table = λ i g st range e. let r = s.table i g (fewer i g st) range e in
        record {
          live = r.live;
          generation = r.generation;
          kind = r.kind;
          pointers = λ p k. r.pointers p (kept-less i g (InRecord p) k);
        };
    block = λ i g path x k e eb. let w = s.block i g path x (kept-less i g path k) e eb in
        record { tag = w.tag; pointers = λ p kp. w.pointers p (kept-less i g (Under path p) kp) };
  }

  may-more : (i g k : ℕ) (v : Value) → MayRead (m.since i g k) v → MayRead ((during m given).since i g k) v
  may-more i g k v (inl e) = inl e
  may-more i g k v (inr c) = inr (more i g k v c)

  mark-more : IsMark m → IsMark (during m given)
  mark-more h = record {
    positive = h.positive;
    quarters = h.quarters;
    values = λ i k live lt. may-more i _ k _ (h.values i k live lt);
    metas = λ i live. more-metas i _ _ (h.metas i live);
    young = h.young;
    stood = λ i g e. h.stood i g (fewer i g e);
    stood_generation = λ i g e. h.stood_generation i g (fewer i g e);
    stood_values = λ i g k e lt. more i g k _ (h.stood_values i g k (fewer i g e) lt);
    below = h.below;
  }

-- the mark's own cells
solid-mark : (m : Mark) → IsMark m → (b : ℕ) → Solid m b (cell_at m.image b)
unfolding inode
solid-mark m h b = record {
  table = λ i g st range e.
      subst (λ (q : ℕ). RecordStands m i g (record_at (cell_at m.image q).payload ((i - 1) % 4))) e (own i g st range);
  block = λ i g path x k f eb. record { tag = refl; pointers = λ n kn. refl };
}
  where
    own : (i g : ℕ) → m.stands i g ≡ true → is_inode m.image i ≡ true
        → RecordStands m i g (record_at (cell_at m.image (1 + (i - 1) / 4)).payload ((i - 1) % 4))
    own i g st range =
        let same : inode m.image i ≡ record_at (cell_at m.image (1 + (i - 1) / 4)).payload ((i - 1) % 4) =
        rw range refl in
        subst (λ (r : Record). RecordStands m i g r) same (record {
          live = h.stood i g st;
          generation = h.stood_generation i g st;
          kind = refl;
          pointers =
              λ n k. refl;
        })

pub law-flush : LawFlush
law-flush m may h only b c has =
    let e = only b c has in
    (inl e, subst (λ (q : Cell). Solid m b q) (sym e) (solid-mark m h b))

-- a pick of explained cells is explained at every block
pub pick-explained : (m : Mark) (may : ℕ → List Cell) (X : Image) → IsMark m → AllExplained m may
    → Picks may (length m.image) X → (b : ℕ)
    → Fine m b (cell_at X b) × Solid m b (cell_at X b)
pick-explained m may X h all pick b = elim (cases_lt b (length m.image)) [
  | inl lt ↦ all b (cell_at X b) (pick.each b lt)
  | inr le ↦
      let len = pick.len in
      let past_x : cell_at X b ≡ no_cell = get_or_past X b no_cell (omega (arith, le, len)) in
      let past_m : cell_at m.image b ≡ no_cell = get_or_past m.image b no_cell le in
      let e : cell_at X b ≡ cell_at m.image b = past_x ∙ sym past_m in
      (inl e, subst (λ (q : Cell). Solid m b q) (sym e) (solid-mark m h b))
]

pub law-moment : LawMoment
law-moment m given X before after h now tracked all only =
    let here = pick-explained m before X h all now in (
      mark-more m given h,
      λ b c has. elim (only b c has) [
        | inl old ↦ (fine-more m given b c (all b c old).0, solid-more m given b c (all b c old).1)
        | inr new ↦ writes-proper (during m given) X (mark-more m given h)
            (λ p. fine-more m given p (cell_at X p) (here p).0)
            (λ p. solid-more m given p (cell_at X p) (here p).1)
            (λ i g s. tracked i g (fewer m given i g s)) b c new
      ],
    )

pub law-images : LawImages
law-images m may X h all now =
    let here = pick-explained m may X h all now in
    let fine : FineImage m X = λ b. (here b).0 in
    let solid : SolidImage m X = λ b. (here b).1 in
    let super = same-super m X h fine in
    record {
      reads = reads m X h fine;
      keeps = solid-keeps m X h super solid;
      pointers = solid-steady m X h super solid;
    }
