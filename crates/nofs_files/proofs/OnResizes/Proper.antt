-- Why each write of a Resize is proper.
use Rattle.std.proofs.Common.{◌≡◌, ℕ, ◌+◌, ◌/◌, ◌<◌, ◌≤◌, ◌⊎◌, inl, inr, Bool, true, false, cond, leb, ltb, ◌&&◌, List}
use Rattle.std.proofs.Common.{length, Some, None, refl, sym, ap, ◌∙◌, subst, subst₂, arith}
use Rattle.std.proofs.lemmas.Bool.{cases_lt}
use Rattle.nofs_ptrs.specs.Paths.{slot_limit, Path, InRecord, Under, path_of, IsSlot}
use Rattle.nofs_disk.specs.Disk.{cell_at, Picks}
use Rattle.nofs_disk.specs.declared.tag.Cell.{Cell}
use Rattle.nofs_disk.specs.declared.tag.Kind.TheVariants.{Leaf}
use Rattle.nofs_disk.specs.declared.tag.Pointer.{Pointer}
use Rattle.nofs_inode.specs.declared.inode.Record.{Record}
use Rattle.nofs_super.specs.declared.superblock.SuperBlock.{SuperBlock}
use Rattle.nofs_disk.specs.Pointer.{is_null}
use Rattle.nofs_ptrs.specs.Cells.{pointer_at}
use Rattle.nofs_disk.specs.Tag.{tag_of}
use Rattle.nofs_model.specs.Geometry.{Image, super_at, is_data_block, inode}
use Rattle.nofs_model.specs.Slots.{kind_in, tag_for, find, pointer, record_pointer}
use Rattle.nofs_model.specs.Files.{FileState, Files}
use Rattle.nofs_model.specs.declared.image.path.PathAnswer.TheVariants as answer
use Rattle.nofs_model.specs.declared.image.value.Value.TheVariants.{Bytes}
use Rattle.nofs_model.proofs.OnSlots.Find.{HoldsAt, find-held}
use Rattle.nofs_model.proofs.OnSound.Writes.{supers}
use Rattle.nofs_crashlaw.specs.Images.Proper.{Proper, OfPointers, OfTable, PointerProper, Same, Cut, RecordProper}
use Rattle.nofs_crashlaw.specs.Images.Proper.{Unchanged}
use Rattle.nofs_crashlaw.specs.Images.Moments.{during}
use Rattle.nofs_crashlaw.specs.Images.Reasons.{ReadsSince, Holes}
use Rattle.nofs_crashlaw.proofs.OnImages.Moments.{law-images}
use Rattle.nofs_history.specs.Meta.{meta_of, Is}
use Rattle.nofs_history.specs.Marks.{Mark, mark_at}
use Rattle.nofs_history.specs.Machine.{Given, gives, resize_given, resize_slot, files_after}
use Rattle.nofs_history.specs.Claims.{no_claims, next_stamp, IsClaim}
use Rattle.nofs_history.specs.History.{FilesMatch}
use Rattle.nofs_history.specs.Since.{agreed_files, files_along}
use Rattle.nofs_history.specs.declared.machine.steps.Step.TheVariants as step
use Rattle.nofs_crashlaw.proofs.OnFiles.Given.{at-itself}
use Rattle.nofs_crashlaw.specs.Maps.Fresh.{Numbered, CellNumbers}
use Rattle.nofs_crashlaw.specs.Files.Resizes.{is_cut}
use Rattle.nofs_crashlaw.specs.Numbers.Cells.{RecordWritten, AsBefore}
use Rattle.nofs_disk.specs.Order.{OneOf, image_after}
use Rattle.nofs_crashlaw.proofs.OnFiles.Resizes.{law-resize-files, law-resize-holes, meta-here}
use Rattle.nofs_crashlaw.proofs.OnFiles.Writes.{law-content, law-record}
use Rattle.nofs_crashlaw.proofs.OnNumbers.Files.{law-resize-cells, law-resize-record, tag-same}
use Rattle.nofs_crashlaw.proofs.OnNumbers.Tables.{law-table-numbers}
use Rattle.nofs_crashlaw.proofs.OnHistories.Entries.{now-picks}
use Rattle.nofs_state.proofs.OnCores.Replies.{no-claim}
use Rattle.nofs_state.proofs.OnWrites.Tables.{table_block, table-records}
use Rattle.nofs_files.specs.Resizes.{kept_slots, cut_record, cut_writes}
use Rattle.nofs_files.specs.declared.resizes.cuts.NewCell.{NewCell}
use Rattle.nofs_files.proofs.OnPuts.Unchanged.{not-leb}
use Rattle.nofs_files.proofs.OnResizes.Slots.{below_path}
use Rattle.nofs_files.proofs.OnResizes.Records.{record-cut, record-stays}
use Rattle.nofs_files.proofs.OnResizes.Writes.{IsAt, AtTail, AtBelow, AtAbove, PointersAt, TailAt, one-is}
use Rattle.nofs_files.proofs.OnResizes.Writes.{tail-at, below-at, above-at, tail-low}
use Rattle.nofs_files.proofs.OnResizes.Image as image
use Rattle.nofs_files.proofs.OnResizes.Image.{Resizing}
use Rattle.nofs_files.proofs.OnResizes.Pointers as pointers_part

module _ (resizing : Resizing) where
  open resizing use {old, H, p, i, g, size, r, tail, edge, c2, is_old, tells, o, h}

  abbrev pub X : Image
  X = old.now

  abbrev m : ℕ
  m = kept_slots r.size size

  abbrev pub Y : Image
  Y = image_after (cut_writes tail edge (table_block i) c2) old.now

  abbrev pub f : FileState
  f = (image.own resizing).file

  pub is : p.world.files i ≡ Some (image.own resizing).file
  is = (image.own resizing).is

  pub gen : (image.own resizing).file.generation ≡ g
  gen = image.generation resizing

  own-generation : (inode old.now i).generation ≡ g
  own-generation = ap (λ (q : Record). q.generation) h.rec ∙ h.generation

  pub claim : IsClaim p.world (step.Resize i g size) no_claims
  claim = no-claim p.world (step.Resize i g size) refl (λ F. refl)

  pub files : FilesMatch (files_after p.world.files (resize_given p.world.files i g size)) Y
  files = law-resize-files p.world.files old.now Y i g size
      (image.own resizing).file (next_stamp p.world)
      (pointers_part.lies resizing)

  -- The numbers

  pointer-numbers : (a : Path) (it : NewCell) → IsAt r.size (kept_slots r.size size) tail edge a it → (b : Path)
      → PointersAt old.now i (kept_slots r.size size) b it
      → CellNumbers (Numbered p.world no_claims) old.now it.block it.cell
  pointer-numbers a it at b t =
      subst₂ (λ (n : ℕ) (c : Cell). CellNumbers (Numbered p.world no_claims) X n c) (sym t.block)
      (ap (cell_at Y) (sym t.block) ∙ image.cell-here resizing a it at)
      ((law-resize-cells p.world X Y i g size f (next_stamp p.world) no_claims
      (image.old-numbers resizing)
      (pointers_part.lies resizing)).1 b t.pointer t.slot t.points
      (image.same-cut resizing b ∙ t.inside.stays) t.held)

  cell-numbers : (a : Path) (it : NewCell) → IsAt r.size (kept_slots r.size size) tail edge a it
      → CellNumbers (Numbered p.world no_claims) old.now it.block it.cell
  cell-numbers a it (AtTail some e) =
      let t = tail-at X i g size r tail edge c2 h it some in
      subst₂ (λ (b : ℕ) (c : Cell). CellNumbers (Numbered p.world no_claims) X b c) (sym t.block)
      (ap (cell_at Y) (sym t.block) ∙ image.cell-here resizing
      (path_of (r.size / 1024)) it (AtTail some refl))
      ((law-resize-cells p.world X Y i g size f (next_stamp p.world) no_claims
      (image.old-numbers resizing)
      (pointers_part.lies resizing)).0 (r.size / 1024) t.pointer
      (tail-low X i g size r tail edge c2 h t.uneven) t.held)
  cell-numbers a it (AtBelow some e) = pointer-numbers (below_path m) it (AtBelow some refl) (below_path m)
      (below-at X i g size r tail edge c2 h it some)
  cell-numbers a it (AtAbove some e) =
      pointer-numbers (InRecord 9) it (AtAbove some refl) (InRecord 9) (above-at X i g size r tail edge c2 h it some).1

  table-numbers : CellNumbers (Numbered p.world no_claims) old.now (table_block i) c2
  table-numbers = law-table-numbers p.world no_claims X (table_block i) c2
      (image.old-numbers resizing) h.tag_table
      (λ j e s. elim (table-records X i (image.r' resizing) c2 h.has j e s) [
        | inl new ↦ subst (λ (q : Record). RecordWritten p.world no_claims X j q)
            (sym (new.1 ∙ sym (image.here resizing)
            ∙ ap (inode Y) (sym new.0)))
            ((law-resize-record p.world X Y i g size f (next_stamp p.world) no_claims
            (image.old-numbers resizing)
            (pointers_part.lies resizing)).1 j)
        | inr was ↦ AsBefore was
      ])

  pub numbers : (n : ℕ) (cell : Cell) → OneOf (cut_writes tail edge (table_block i) c2) n cell
      → CellNumbers (Numbered p.world no_claims) old.now n cell
  numbers n cell one = elim (one-is r.size m tail edge (table_block i) c2 n cell one) [
    | inl e ↦ subst₂ (λ (q : ℕ) (d : Cell). CellNumbers (Numbered p.world no_claims) X q d) (sym e.0)
        (sym e.1) table-numbers
    | inr (a, it, at, eb, ec) ↦
        subst₂ (λ (q : ℕ) (d : Cell). CellNumbers (Numbered p.world no_claims) X q d) (sym eb) (sym ec)
        (cell-numbers a it at)
  ]

  -- Why each write is proper

  abbrev pub given : Given
  given = resize_given p.world.files i g size

  abbrev pub M : Mark
  M = mark_at p.base H (old.moment + 1) p.mark p.stamps

  pick : Picks old.may (length p.mark) old.now
  pick = now-picks old p.mark is_old tells o.stage.ready.survives.size

  reads : ReadsSince (mark_at p.base H (old.moment + 1) p.mark p.stamps) old.now
  reads = (law-images M old.may X o.stage.ready.survives.mark o.stage.ready.survives.explained pick).reads

  mark-super : super_at p.mark ≡ super_at old.now
  mark-super = supers X p.mark (sym reads.super)

  mark-area : (b : ℕ) → is_data_block old.now b ≡ true → is_data_block p.mark b ≡ true
  mark-area b d = subst (λ (q : SuperBlock). (leb (1 + q.inodes / 4) b && ltb b q.blocks) ≡ true) (sym mark-super) d

  pub same-given : resize_given p.world.files i g size ≡ resize_given (files_along (agreed_files p.base) H) i g size
  same-given = ap (λ (G : Files). resize_given G i g size) o.files

  -- holes are given to what is cut
  holes : (a : Path) → IsSlot a → is_cut (kept_slots r.size size) a ≡ true
      → Holes (during (mark_at p.base H (old.moment + 1) p.mark p.stamps) (resize_given p.world.files i g size)) i g a
  holes a s cut = law-resize-holes M p.world.files i g size f a is s
      (image.same-cut resizing a ∙ cut)

  tail-proper : (it : NewCell) → tail ≡ Some it
      → Proper (during (mark_at p.base H (old.moment + 1) p.mark p.stamps) (resize_given p.world.files i g size))
      old.now it.block it.cell
  tail-proper it some = subst (λ (b : ℕ). Proper (during M given) X b it.cell) (sym t.block)
      (law-content M given X Y i g (r.size / 1024) t.pointer it.cell (record {
        area = mark-area t.pointer.block held.agrees.area;
        range = low;
        generation = ap (λ (q : Record). q.generation)
            (image.here resizing) ∙ h.generation;
        tag = ap tag_of t.tag ∙ held.agrees.tag ∙ ap Some (sym (tag-same X Y i (path_of (r.size / 1024)) t.pointer.stamp
            (image.names resizing).kind
            (image.names resizing).generation));
        gives = ap (λ (b : Bool). cond b (resize_slot p.world.files i size (r.size / 1024)) None) (at-itself i g)
            ∙ pointers_part.end-given resizing t.pointer t.grows t.uneven t.held
            ∙ ap (λ (v : List ℕ). Some (Bytes v)) (sym t.payload);
        place = inl (ap tag_of t.tag);
      }))
    where
      t : TailAt old.now i r.size size it
      t = tail-at X i g size r tail edge c2 h it some

      low : r.size / 1024 < slot_limit
      low = tail-low X i g size r tail edge c2 h t.uneven

      held : HoldsAt old.now i (path_of (r.size / 1024)) t.pointer
      held = find-held X i (path_of (r.size / 1024)) t.pointer t.held

  pointers-proper : (a : Path) (it : NewCell) → PointersAt old.now i (kept_slots r.size size) a it
      → Proper (during (mark_at p.base H (old.moment + 1) p.mark p.stamps) (resize_given p.world.files i g size))
      old.now it.block it.cell
  pointers-proper a it t = subst (λ (b : ℕ). Proper (during M given) X b it.cell) (sym t.block) (OfPointers (record {
    area = mark-area t.pointer.block held.agrees.area;
    tag = tag_for X i a t.pointer.stamp;
    spelled = ap tag_of t.cut.tag ∙ held.agrees.tag;
    kind = leaf-kind;
    path = a;
    is_slot = t.slot;
    points = t.points;
    slot = refl;
    place = inl (ap tag_of t.cut.tag);
    pointers = λ n lt. one n lt (cases_lt n t.from);
  }))
    where
      held : HoldsAt old.now i a t.pointer
      held = find-held X i a t.pointer t.held

      leaf-kind : kind_in (inode old.now i) a ≡ Leaf
      leaf-kind = let e = t.points in rw e refl

      was : (n : ℕ) → pointer old.now i (Under a n) ≡ pointer_at (cell_at old.now t.pointer.block).payload n
      was n = let e = t.held in rw (e, pointer) refl

      one : (n : ℕ) → n < 64 → (n < t.from) ⊎ (t.from ≤ n) → PointerProper
          (during (mark_at p.base H (old.moment + 1) p.mark p.stamps) (resize_given p.world.files i g size)) old.now i
          (inode old.now i).generation
          (Under a n) (pointer_at it.cell.payload n)
      one n lt (inl before) =
          Same (image.own resizing).live refl (t.pointer, t.held)
          (was n ∙ sym (t.cut.kept n before lt))
      one n lt (inr behind) =
          Cut (t.cut.cut n behind lt) (subst (λ (q : ℕ). Holes (during M given) i q (Under a n)) (sym own-generation)
          (holes (Under a n) (t.points, lt, t.slot) (t.inside.behind n lt behind)))

  block-proper : (a : Path) (it : NewCell) → IsAt r.size (kept_slots r.size size) tail edge a it
      → Proper (during (mark_at p.base H (old.moment + 1) p.mark p.stamps) (resize_given p.world.files i g size))
      old.now it.block it.cell
  block-proper a it (AtTail some e) = tail-proper it some
  block-proper a it (AtBelow some e) = pointers-proper (below_path m) it (below-at X i g size r tail edge c2 h it some)
  block-proper a it (AtAbove some e) = pointers-proper (InRecord 9) it (above-at X i g size r tail edge c2 h it some).1

  record-proper : RecordProper
      (during (mark_at p.base H (old.moment + 1) p.mark p.stamps) (resize_given p.world.files i g size)) old.now i
      (cut_record r size (kept_slots r.size size))
  record-proper = law-record M given X i (cut_record r size (kept_slots r.size size)) (record {
    live = (image.own resizing).live;
    generation = sym (ap (λ (q : Record). q.generation) h.rec);
    kind = sym (ap (λ (q : Record). q.kind) h.rec);
    meta = inr (ap (given.metas i) (h.generation ∙ sym gen) ∙ meta-here p.world.files i g size f is gen
        (image.file resizing) ∙ ap Some new-meta);
    reads = reads;
    pointers = λ n lt. one n lt (is_cut (kept_slots r.size size) (InRecord n)) refl;
  })
    where
      new-meta : Is (image.own resizing).file.kind size
          (image.own resizing).file.links ≡ meta_of
          (cut_record r size (kept_slots r.size size))
      new-meta = let e = h.kind in (λ j. Is (image.file-kind resizing j) size
          (((image.own resizing).links ∙ ap (λ (q : Record). q.links) h.rec)
          j)) ∙ sym (rw (e, meta_of) refl)

      one : (n : ℕ) → n < 10 → (b : Bool) → is_cut (kept_slots r.size size) (InRecord n) ≡ b
          → (record_pointer (cut_record r size (kept_slots r.size size)) n ≡ record_pointer (inode old.now i) n)
          ⊎ (((p.stamps ≤ (record_pointer (cut_record r size (kept_slots r.size size)) n).stamp) ×
          ((z : Pointer) → find old.now i (InRecord n) ≡ answer.Holds z → ⊥))
          ⊎ ((is_null (record_pointer (cut_record r size (kept_slots r.size size)) n) ≡ true) × Holes
          (during (mark_at p.base H (old.moment + 1) p.mark p.stamps) (resize_given p.world.files i g size)) i
          r.generation (InRecord n)))
      one n lt true e = inr (inr (
        record-cut r size m h.eight n e,
        subst (λ (q : ℕ). Holes (during M given) i q (InRecord n)) (sym h.generation)
            (holes (InRecord n) lt e),
      ))
      one n lt false e = inl (record-stays r size m h.eight n e ∙ ap (λ (q : Record). record_pointer q n) (sym h.rec))

  table-proper : Proper (during (mark_at p.base H (old.moment + 1) p.mark p.stamps)
      (resize_given p.world.files i g size)) old.now (table_block i) c2
  table-proper = OfTable (record {
    not_super = omega arith;
    area = ap (λ (q : SuperBlock). leb (1 + q.inodes / 4) (table_block i) && ltb (table_block i) q.blocks) mark-super
        ∙ (let t : leb (1 + (super_at X).inodes / 4) (table_block i) ≡ false =
        not-leb (1 + (super_at X).inodes / 4) (table_block i)
        (let l = image.table-low resizing in omega (arith, l)) in rw t refl);
    records = λ j e s. elim (table-records X i (cut_record r size (kept_slots r.size size)) c2 h.has j
        (subst (λ (q : SuperBlock). (leb 1 j && leb j q.inodes) ≡ true) mark-super e) s) [
          | inl new ↦ subst₂ (λ (q : ℕ) (t : Record). RecordProper (during M given) X q t) (sym new.0)
              (sym new.1) record-proper
          | inr was ↦ Unchanged was
        ];
  })

  pub proper : (n : ℕ) (cell : Cell) → OneOf (cut_writes tail edge (table_block i) c2) n cell
      → Proper (during (mark_at p.base H (old.moment + 1) p.mark p.stamps)
      (resize_given p.world.files i g size)) old.now n cell
  proper n cell one = elim (one-is r.size m tail edge (table_block i) c2 n cell one) [
    | inl e ↦ subst₂ (λ (q : ℕ) (d : Cell). Proper (during M given) X q d) (sym e.0) (sym e.1) table-proper
    | inr (a, it, at, eb, ec) ↦
        subst₂ (λ (q : ℕ) (d : Cell). Proper (during M given) X q d) (sym eb) (sym ec) (block-proper a it at)
  ]
