-- Whatever image a crash leaves, each slot that holds was held so at the mark, or its block was written since.
use Rattle.std.proofs.Common.{◌≡◌, ℕ, ◌+◌, ◌-◌, ◌/◌, ◌%◌, ◌<◌, inl, inr, Bool, true, false, cond, eqb, List, Option}
use Rattle.std.proofs.Common.{Some, None, refl, sym, ap, ◌∙◌, subst, subst₂, arith, Contains, eqb-true}
use Rattle.nofs_inode.specs.declared.inode.FileKind.TheVariants.{Directory as Folder, File}
use Rattle.nofs_model.specs.declared.image.path.PathAnswer.{PathAnswer}
use Rattle.nofs_crashlaw.specs.Images.Reasons.{Holes, FromMark, Explained, Emptied, Fresh, Kept, WrittenAs}
use Rattle.nofs_crashlaw.specs.Images.Reasons.{RecordExplained, Written, IsMark, ReadsSince, FineImage}
use Rattle.nofs_model.proofs.OnSlots.Find.{and-both, Agrees, HoldsAt, find-held, find-null, judged-null}
use Rattle.nofs_model.proofs.OnSlots.Find.{judged-built-null, null-kept, find-built, agrees-built}
use Rattle.nofs_ptrs.specs.PathLaws.{path_of-slot_of, slot_of-path_of, path_of-slot}
use Rattle.nofs_model.proofs.OnSlots.Paths.{path_of-content, above-refl, above-up, below-null}
use Rattle.nofs_model.specs.declared.image.path.PathAnswer.TheVariants as answer
use Rattle.nofs_history.specs.Meta.{MayRead}
use Rattle.nofs_history.specs.Marks.{Mark}
use Rattle.nofs_disk.specs.declared.tag.Cell.{Cell}
use Rattle.nofs_disk.specs.declared.tag.Kind.{Kind}
use Rattle.nofs_disk.specs.declared.tag.Kind.TheVariants.{Content, Directory, Leaf}
use Rattle.nofs_disk.specs.declared.tag.Tag.{Tag}
use Rattle.nofs_disk.specs.declared.tag.Pointer.{Pointer}
use Rattle.nofs_inode.specs.declared.inode.FileKind.{FileKind}
use Rattle.nofs_inode.specs.declared.inode.Record.{Record}
use Rattle.nofs_disk.specs.Tag.{tag_of}
use Rattle.nofs_disk.specs.Pointer.{is_null}
use Rattle.nofs_ptrs.specs.Cells.{pointer_at}
use Rattle.nofs_inode.specs.InodeRecords.{is_live, record_at, free_record}
use Rattle.nofs_ptrs.specs.Paths.{slot_limit, Path, InRecord, Under, path_of, slot_of, is_pointer_slot, IsSlot}
use Rattle.nofs_super.specs.Super.{super_in}
use Rattle.nofs_model.specs.Geometry.{Image, super_at, is_data_block, is_inode, inode}
use Rattle.nofs_disk.specs.Disk.{cell_at}
use Rattle.nofs_model.specs.Slots.{kind_in, tag_for, record_pointer, find, pointer, value, value_in, AboveHolds}
use Rattle.nofs_model.specs.declared.image.value.Value.{Value}
use Rattle.nofs_model.specs.declared.image.value.Value.TheVariants.{Hole, Bytes}

null-stamp : (x : Pointer) → is_null x ≡ true → x.stamp ≡ 0
null-stamp x e = eqb-true x.stamp 0 (and-both (eqb x.block 0) (eqb x.stamp 0) e).1

module _ (m : Mark) (X : Image) (h : IsMark m) (fine : FineImage m X) where
  pub same-super : cell_at X 0 ≡ cell_at m.image 0
  same-super = elim (fine 0) [ inl e ↦ e | inr w ↦ absurd (omega (arith, w.not_super)) ]

  pub same-numbers : super_at X ≡ super_at m.image
  unfolding super_at
  same-numbers = ap (λ (c : Cell). super_in c.payload) same-super

  pub same-area : (p : ℕ) → is_data_block X p ≡ is_data_block m.image p
  same-area p = rw same-numbers

  same-range : (i : ℕ) → is_inode X i ≡ is_inode m.image i
  same-range i = rw same-numbers

  mark-record : (i : ℕ) → is_live (inode m.image i) ≡ true → RecordExplained m i (inode m.image i)
  mark-record i l = record {
    meta = h.metas i l;
    kind = λ a b. refl;
    pointers = λ n lt. Kept (record { live = l; generation = refl; above = tt; same = refl });
  }

  pub explained-record : (i : ℕ) → is_live (inode X i) ≡ true → RecordExplained m i (inode X i)
  unfolding inode
  explained-record i l = go (is_inode X i) refl l
    where
      go : (b : Bool) → is_inode X i ≡ b
          → is_live (cond b (record_at (cell_at X (1 + (i - 1) / 4)).payload ((i - 1) % 4)) free_record) ≡ true
          → RecordExplained m i (cond b (record_at (cell_at X (1 + (i - 1) / 4)).payload ((i - 1) % 4)) free_record)
      go false e live = cc
      go true e live =
          let e2 : is_inode m.image i ≡ true = sym (same-range i) ∙ e in
          elim (fine (1 + (i - 1) / 4)) [
            | inl same ↦
                let eq : inode m.image i ≡ record_at (cell_at X (1 + (i - 1) / 4)).payload ((i - 1) % 4) =
                rw e2 (ap (λ (c : Cell). record_at c.payload ((i - 1) % 4)) (sym same)) in
                subst (λ (r : Record). RecordExplained m i r) eq
                (mark-record i (subst (λ (r : Record). is_live r ≡ true) (sym eq) live))
            | inr w ↦ w.table i e2 refl live
          ]

  -- where a block that holds comes from
  data Traced (i : ℕ) (path : Path) (x : Pointer) : Type 0 where
    AtMark : is_live (inode m.image i) ≡ true → (inode m.image i).generation ≡ (inode X i).generation
        → find m.image i path ≡ answer.Holds x
        → cell_at X x.block ≡ cell_at m.image x.block → Traced i path x
    Since : WrittenAs m (kind_in (inode X i) path) (tag_for X i path x.stamp) (cell_at X x.block).payload
        → Traced i path x

  since-case : (i : ℕ) (path : Path) (x : Pointer) → Agrees X i path x → Written m x.block (cell_at X x.block)
      → Traced i path x
  since-case i path x a w =
      let area : is_data_block m.image x.block ≡ true = sym (same-area x.block) ∙ a.area in
      let (t, et, wa) = w.block area in
      let same : t ≡ tag_for X i path x.stamp = cc (et, a.tag) in
      Since (subst (λ (u : Tag). WrittenAs m u.kind u (cell_at X x.block).payload) same wa)

  mark-case : (i : ℕ) (path : Path) (x : Pointer) → HoldsAt X i path x → cell_at X x.block ≡ cell_at m.image x.block
      → FromMark m i (inode X i).generation path x → Traced i path x
  mark-case i path x hx same k =
      let kinds : (inode m.image i).kind ≡ (inode X i).kind =
      (explained-record i hx.agrees.live).kind k.live k.generation in
      let tags : tag_for X i path x.stamp ≡ tag_for m.image i path x.stamp = rw (kinds, k.generation) in
      let area : is_data_block m.image x.block ≡ true = sym (same-area x.block) ∙ hx.agrees.area in
      let tag : tag_of (cell_at m.image x.block).tag ≡ Some (tag_for m.image i path x.stamp) =
      subst (λ (c : Cell). tag_of c.tag ≡ Some (tag_for m.image i path x.stamp)) same (hx.agrees.tag ∙ ap Some tags) in
      AtMark k.live k.generation
      (find-built m.image i path x k.above k.same
      (agrees-built m.image i path x (record { live = k.live; area = area; tag = tag })) hx.not_null)
      same

  traced : (i : ℕ) (path : Path) (x : Pointer) → HoldsAt X i path x → Explained m i (inode X i).generation path x
      → Traced i path x
  traced i path x hx (Emptied z holes) = absurd (cc (z, hx.not_null))
  traced i path x hx (Fresh le) = elim (fine x.block) [
    | inl same ↦
        let lt : x.stamp < m.stamps =
        h.below x.block (tag_for X i path x.stamp) (sym (same-area x.block) ∙ hx.agrees.area)
        (subst (λ (c : Cell). tag_of c.tag ≡ Some (tag_for X i path x.stamp)) same hx.agrees.tag) in
        absurd (omega (arith, lt, le))
    | inr w ↦ since-case i path x hx.agrees w
  ]
  traced i path x hx (Kept k) = elim (fine x.block) [
    | inl same ↦ mark-case i path x hx same k
    | inr w ↦ since-case i path x hx.agrees w
  ]

  -- why the pointer of a slot stands where the block above it holds
  pub explained : (i : ℕ) (path : Path) → IsSlot path → is_live (inode X i) ≡ true → AboveHolds X i path
      → Explained m i (inode X i).generation path (pointer X i path)
  explained i (InRecord n) s live above = (explained-record i live).pointers n s
  explained i (Under a n) s live (y, ea) =
      let ha = find-held X i a y ea in
      let ex : Explained m i (inode X i).generation a y =
      subst (λ (w : Pointer). Explained m i (inode X i).generation a w) ha.same
      (explained i a s.2 live ha.above) in
      step i a n s live y ea (traced i a y ha ex)
    where
      step : (i : ℕ) (a : Path) (n : ℕ) → IsSlot (Under a n)
          → is_live (inode X i) ≡ true → (y : Pointer) → find X i a ≡ answer.Holds y → Traced i a y
          → Explained m i (inode X i).generation (Under a n) (pointer X i (Under a n))
      step i a n s live y ea (AtMark ml g eM same) = Kept (record {
        live = ml;
        generation = g;
        above = (y, eM);
        same =
            rw (ea, eM, pointer) (ap (λ (c : Cell). pointer_at c.payload n) (sym same));
      })
      step i a n s live y ea (Since w) =
          let k : kind_in (inode X i) a ≡ Leaf = rw s.0 in
          let wl : WrittenAs m Leaf (tag_for X i a y.stamp) (cell_at X y.block).payload =
          subst (λ (q : Kind). WrittenAs m q (tag_for X i a y.stamp) (cell_at X y.block).payload) k w in
          let ep : path_of (slot_of a) ≡ a = path_of-slot_of a s.2 in
          let same : pointer X i (Under a n) ≡ pointer_at (cell_at X y.block).payload n = rw (ea, pointer) in
          subst (λ (q : Pointer). Explained m i (inode X i).generation (Under a n) q) (sym same)
          (subst (λ (q : Path). Explained m i (inode X i).generation (Under q n)
          (pointer_at (cell_at X y.block).payload n)) ep (wl n s.1))

  -- what is empty may be a hole
  null-place : (i : ℕ) (path : Path) (x : Pointer)
      → is_live (inode X i) ≡ true → Explained m i (inode X i).generation path x → is_null x ≡ true
      → (FromMark m i (inode X i).generation path x → find m.image i path ≡ answer.Hole)
      → Holes m i (inode X i).generation path
  null-place i path x live (Emptied z holes) n at_mark = holes
  null-place i path x live (Fresh le) n at_mark =
      let z : x.stamp ≡ 0 = null-stamp x n in
      absurd (omega (arith, h.positive, le, z))
  null-place i path x live (Kept f) n at_mark = λ k lt above.
      let g : (inode m.image i).generation ≡ (inode X i).generation = f.generation in
      let empty : find m.image i (path_of k) ≡ answer.Hole = below-null m.image i path (path_of k) above (at_mark f) in
      let hole : value m.image i k ≡ Hole = ap (λ (q : PathAnswer). value_in m.image q) empty in
      let may = h.values i k f.live lt in
      let may' : MayRead (m.since i (inode X i).generation k) Hole =
      subst₂ (λ (q : ℕ) (v : Value). MayRead (m.since i q k) v) g hole may in
      elim may' [ inl e ↦ absurd (cc e) | inr c ↦ c ]

  null-record : (i n : ℕ) → n < 10 → find X i (InRecord n) ≡ answer.Hole → is_live (inode X i) ≡ true
      → Holes m i (inode X i).generation (InRecord n)
  null-record i n s e live =
      let z = judged-null X i (InRecord n) (record_pointer (inode X i) n) e in
      null-place i (InRecord n) (record_pointer (inode X i) n) live ((explained-record i live).pointers n s) z
      (λ f. rw f.same (judged-built-null m.image i (InRecord n) (record_pointer (inode X i) n) z))

  pub holes : (i : ℕ) (path : Path) → IsSlot path
      → is_live (inode X i) ≡ true → find X i path ≡ answer.Hole → Holes m i (inode X i).generation path
  holes i (InRecord n) s live e = null-record i n s e live
  holes i (Under a n) s live e = elim (find-null X i a n e) [
    | inl ea ↦ (λ k lt above. holes i a s.2 live ea k lt (above-up a n (path_of k) above))
    | inr w ↦ null-under i a n s live w.0 w.1 w.2
  ]
    where
      null-under : (i : ℕ) (a : Path) (n : ℕ) → IsSlot (Under a n)
          → is_live (inode X i) ≡ true → (y : Pointer) → find X i a ≡ answer.Holds y
          → is_null (pointer_at (cell_at X y.block).payload n) ≡ true → Holes m i (inode X i).generation (Under a n)
      null-under i a n s live y ea z =
          let same : pointer X i (Under a n) ≡ pointer_at (cell_at X y.block).payload n = rw (ea, pointer) in
          let zp : is_null (pointer X i (Under a n)) ≡ true = subst (λ (q : Pointer). is_null q ≡ true) (sym same) z in
          null-place i (Under a n) (pointer X i (Under a n)) live (explained i (Under a n) s live (y, ea)) zp
          (λ f. null-kept m.image i a n f.above (subst (λ (q : Pointer). is_null q ≡ true) (sym f.same) zp))

  content-written : (o : Option FileKind) (t : Tag) (payload : List ℕ)
      → WrittenAs m
      (elim o [ None ↦ Content | Some kind ↦ elim kind [ File ↦ Content | Folder ↦ Directory ] ]) t payload
      → Contains (m.since t.inode t.generation t.slot) (Bytes payload)
  content-written None t payload w = w
  content-written (Some File) t payload w = w
  content-written (Some Folder) t payload w = w

  held-value : (i k : ℕ) (x : Pointer) → is_live (inode X i) ≡ true → k < slot_limit → Traced i (path_of k) x
      → MayRead (m.since i (inode X i).generation k) (Bytes (cell_at X x.block).payload)
  held-value i k x live lt (AtMark ml g eM same) =
      let eqv : value m.image i k ≡ Bytes (cell_at X x.block).payload =
      ap (λ (q : PathAnswer). value_in m.image q) eM ∙ ap (λ (c : Cell). Bytes c.payload) (sym same) in
      subst₂ (λ (q : ℕ) (v : Value). MayRead (m.since i q k) v) g eqv (h.values i k ml lt)
  held-value i k x live lt (Since w) =
      let c : is_pointer_slot (path_of k) ≡ false = path_of-content k lt in
      let kinds : kind_in (inode X i) (path_of k) ≡ elim (inode X i).kind [
        | None ↦ Content
        | Some kind ↦ elim kind [ File ↦ Content | Folder ↦ Directory ]
      ]
      = rw c in
      let w' = subst
      (λ (q : Kind). WrittenAs m q (tag_for X i (path_of k) x.stamp) (cell_at X x.block).payload) kinds w in
      let has = content-written (inode X i).kind (tag_for X i (path_of k) x.stamp) (cell_at X x.block).payload w' in
      inr (subst (λ (q : ℕ). Contains (m.since i (inode X i).generation q) (Bytes (cell_at X x.block).payload))
      (slot_of-path_of k lt) has)

  reads-value : (i k : ℕ)
      → is_live (inode X i) ≡ true → k < slot_limit → MayRead (m.since i (inode X i).generation k) (value X i k)
  reads-value i k live lt = go (find X i (path_of k)) refl
    where
      go : (f : PathAnswer) → find X i (path_of k) ≡ f → MayRead (m.since i (inode X i).generation k) (value_in X f)
      go answer.Hole e = inr (holes i (path_of k) (path_of-slot k lt) live e k lt (above-refl (path_of k)))
      go answer.Lost e = inl refl
      go (answer.Holds x) e =
          let hx = find-held X i (path_of k) x e in
          let ex : Explained m i (inode X i).generation (path_of k) x =
          subst (λ (w : Pointer). Explained m i (inode X i).generation (path_of k) w) hx.same
          (explained i (path_of k) (path_of-slot k lt) live hx.above) in
          held-value i k x live lt (traced i (path_of k) x hx ex)

  pub reads-all : ReadsSince m X
  reads-all = record { super = same-super; metas = λ i live. (explained-record i live).meta; values = reads-value }

pub reads : (m : Mark) (X : Image) → IsMark m → FineImage m X → ReadsSince m X
reads m X h fine = reads-all m X h fine
