-- What a Resize writes: the cells of some slots, each with its block, and the record.
use Rattle.std.proofs.Common.{◌≡◌, ◌≢◌, ℕ, ◌+◌, ◌-◌, ◌*◌, ◌/◌, ◌%◌, ◌<◌, ◌≤◌, ◌⊎◌, inl, inr, true, List, [], ◌∷◌}
use Rattle.std.proofs.Common.{length, Option, Some, None, refl, sym, ap, ◌∙◌, subst, arith}
use Rattle.std.proofs.lemmas.Bool.{cases_eq, cases_lt}
use Rattle.nofs_ptrs.specs.Paths.{slot_limit, Path, InRecord, Under, path_of, is_pointer_slot, IsSlot}
use Rattle.nofs_disk.specs.Disk.{cell_at}
use Rattle.nofs_inode.specs.InodeRecords.{largest_size}
use Rattle.nofs_inode.specs.declared.inode.FileKind.TheVariants.{File}
use Rattle.nofs_disk.specs.declared.tag.Cell.{Cell}
use Rattle.nofs_disk.specs.declared.tag.Pointer.{Pointer}
use Rattle.nofs_inode.specs.declared.inode.Record.{Record}
use Rattle.nofs_disk.specs.Tag.{tag_of}
use Rattle.nofs_model.specs.Geometry.{Image, inode}
use Rattle.nofs_model.specs.Slots.{find}
use Rattle.nofs_model.specs.Files.{files_in, agreed}
use Rattle.nofs_model.specs.declared.image.path.PathAnswer.{PathAnswer}
use Rattle.nofs_model.specs.declared.image.path.PathAnswer.TheVariants as answer
use Rattle.nofs_ptrs.specs.PathLaws.{path_of-slot, path_of-slot_of}
use Rattle.nofs_model.proofs.OnSlots.Paths.{path_of-content}
use Rattle.nofs_history.specs.Machine.{trimmed}
use Rattle.nofs_crashlaw.proofs.OnUntouched.Inodes.{one-owner}
use Rattle.nofs_crashlaw.specs.Numbers.Cells.{table_tag}
use Rattle.nofs_disk.specs.Order.{IsApart, OneOf, WritesOnce}
use Rattle.nofs_state.proofs.OnWrites.Tables.{HasRecord, table_block}
use Rattle.nofs_files.specs.Resizes.{kept_slots, cut_record, maybe, cut_writes, IsCutCell, IsCutBlock, IsTail}
use Rattle.nofs_files.specs.Resizes.{IsTailOf, IsEdge, last_child}
use Rattle.nofs_files.specs.declared.resizes.cuts.NewCell.{NewCell}
use Rattle.nofs_files.specs.declared.resizes.cuts.Edge.{Edge}
use Rattle.nofs_files.proofs.OnResizes.Slots.{Inside, below_path, near-path, far-path, leaf-inside, top-inside}
use Rattle.nofs_files.proofs.OnResizes.Slots.{child-inside, child-low}

-- what was read of a file that gets another size, and its new cells
pub record Cuts (X : Image) (i g size : ℕ) (r : Record) (tail : Option NewCell) (edge : Edge) (c2 : Cell) : Type 0 where
  pub rec : inode X i ≡ r
  pub kind : r.kind ≡ Some File
  pub generation : r.generation ≡ g
  pub agrees : agreed (files_in X) i ≡ true
  pub eight : length r.direct ≡ 8
  pub old : r.size ≤ largest_size
  pub new : size ≤ largest_size
  pub tail_is : IsTail X i r.size size tail
  pub edge_is : IsEdge X i (kept_slots r.size size) edge
  pub has : HasRecord X i (cut_record r size (kept_slots r.size size)) c2
  pub tag_table : tag_of c2.tag ≡ Some (table_tag (table_block i))

-- the end of the content
pub record TailAt (X : Image) (i old size : ℕ) (it : NewCell) : Type 0 where
  pub grows : old ≤ size
  pub uneven : old % 1024 ≢ 0
  pub pointer : Pointer
  pub held : find X i (path_of (old / 1024)) ≡ answer.Holds pointer
  pub block : it.block ≡ pointer.block
  pub tag : it.cell.tag ≡ (cell_at X pointer.block).tag
  pub payload : it.cell.payload ≡ trimmed (old % 1024) (cell_at X pointer.block).payload

-- a block of pointers that is cut inside
pub record PointersAt (X : Image) (i m : ℕ) (a : Path) (it : NewCell) : Type 0 where
  pub points : is_pointer_slot a ≡ true
  pub slot : IsSlot a
  pub pointer : Pointer
  pub held : find X i a ≡ answer.Holds pointer
  pub block : it.block ≡ pointer.block
  pub from : ℕ
  pub inside : Inside m a from
  pub cut : IsCutCell from (cell_at X pointer.block) it.cell

-- a cell that is written, and its slot
pub data IsAt (old m : ℕ) (tail : Option NewCell) (edge : Edge) (a : Path) (it : NewCell) : Type 0 where
  AtTail : tail ≡ Some it → a ≡ path_of (old / 1024) → IsAt old m tail edge a it
  AtBelow : edge.below ≡ Some it → a ≡ below_path m → IsAt old m tail edge a it
  AtAbove : edge.above ≡ Some it → a ≡ InRecord 9 → IsAt old m tail edge a it

-- Lists of writes that may come

maybe-one : (o : Option NewCell) (ws : List (ℕ × Cell)) (b : ℕ) (c : Cell) → OneOf (maybe o ws) b c
    → ((it : NewCell) × (o ≡ Some it) × (b ≡ it.block) × (c ≡ it.cell)) ⊎ OneOf ws b c
maybe-one None ws b c one = inr one
maybe-one (Some it) ws b c (inl e) = inl (it, refl, e.0, e.1)
maybe-one (Some it) ws b c (inr r) = inr r

maybe-here : (o : Option NewCell) (ws : List (ℕ × Cell)) (it : NewCell) → o ≡ Some it
    → OneOf (maybe o ws) it.block it.cell
maybe-here None ws it e = cc e
maybe-here (Some w) ws it e = let s : w ≡ it = cc e in
    inl (ap (λ (q : NewCell). q.block) (sym s), ap (λ (q : NewCell). q.cell) (sym s))

maybe-there : (o : Option NewCell) (ws : List (ℕ × Cell)) (b : ℕ) (c : Cell) → OneOf ws b c → OneOf (maybe o ws) b c
maybe-there None ws b c one = one
maybe-there (Some w) ws b c one = inr one

maybe-meets : (o : Option NewCell) (b : ℕ) → ((it : NewCell) × (o ≡ Some it) × (b ≡ it.block))
    ⊎ ((it : NewCell) → o ≡ Some it → b ≢ it.block)
maybe-meets None b = inr (λ it e. cc e)
maybe-meets (Some w) b = elim (cases_eq b w.block) [
  | inl e ↦ inl (w, refl, e)
  | inr ne ↦ inr (λ it e eb. ne (let s : w ≡ it = cc e in eb ∙ ap (λ (q : NewCell). q.block) (sym s)))
]

pub apart-maybe : (o : Option NewCell) (ws : List (ℕ × Cell)) (b : ℕ) → ((it : NewCell) → o ≡ Some it → b ≢ it.block)
    → IsApart ws b → IsApart (maybe o ws) b
apart-maybe None ws b differ rest = rest
apart-maybe (Some it) ws b differ rest = (differ it refl, rest)

pub once-maybe : (o : Option NewCell) (ws : List (ℕ × Cell)) → ((it : NewCell) → o ≡ Some it → IsApart ws it.block)
    → WritesOnce ws → WritesOnce (maybe o ws)
once-maybe None ws apart once = once
once-maybe (Some it) ws apart once = (apart it refl, once)

same-some : (o : Option NewCell) (it w : NewCell) → o ≡ Some it → o ≡ Some w → it ≡ w
same-some o it w e f = cc (e, f)

module _ (old m : ℕ) (tail : Option NewCell) (edge : Edge) (table : ℕ) (c2 : Cell) where
  pub one-is : (b : ℕ) (c : Cell) → OneOf (cut_writes tail edge table c2) b c
      → ((b ≡ table) × (c ≡ c2))
      ⊎ ((a : Path) × (it : NewCell) × IsAt old m tail edge a it × (b ≡ it.block) × (c ≡ it.cell))
  one-is b c one = elim (maybe-one tail (maybe edge.below (maybe edge.above ((table, c2) ∷ []))) b c one) [
    | inl (it, e, eb, ec) ↦ inr (path_of (old / 1024), it, AtTail e refl, eb, ec)
    | inr r ↦ elim (maybe-one edge.below (maybe edge.above ((table, c2) ∷ [])) b c r) [
      | inl (it, e, eb, ec) ↦ inr (below_path m, it, AtBelow e refl, eb, ec)
      | inr s ↦ elim (maybe-one edge.above ((table, c2) ∷ []) b c s) [
        | inl (it, e, eb, ec) ↦ inr (InRecord 9, it, AtAbove e refl, eb, ec)
        | inr t ↦ elim t [ inl e ↦ inl e | inr none ↦ absurd none ]
      ]
    ]
  ]

  pub at-one : (a : Path) (it : NewCell) → IsAt old m tail edge a it
      → OneOf (cut_writes tail edge table c2) it.block it.cell
  at-one a it (AtTail e s) = maybe-here tail (maybe edge.below (maybe edge.above ((table, c2) ∷ []))) it e
  at-one a it (AtBelow e s) = maybe-there tail (maybe edge.below (maybe edge.above ((table, c2) ∷ []))) it.block it.cell
      (maybe-here edge.below (maybe edge.above ((table, c2) ∷ [])) it e)
  at-one a it (AtAbove e s) = maybe-there tail (maybe edge.below (maybe edge.above ((table, c2) ∷ []))) it.block it.cell
      (maybe-there edge.below (maybe edge.above ((table, c2) ∷ [])) it.block it.cell
      (maybe-here edge.above ((table, c2) ∷ []) it e))

  pub table-one : OneOf (cut_writes tail edge table c2) table c2
  table-one = maybe-there tail (maybe edge.below (maybe edge.above ((table, c2) ∷ []))) table c2
      (maybe-there edge.below (maybe edge.above ((table, c2) ∷ [])) table c2
      (maybe-there edge.above ((table, c2) ∷ []) table c2 (inl (refl, refl))))

  -- a block is one that is written for a slot, or none
  pub meets : (b : ℕ) → ((a : Path) × (it : NewCell) × IsAt old m tail edge a it × (b ≡ it.block)) ⊎
      ((a : Path) (it : NewCell) → IsAt old m tail edge a it → b ≢ it.block)
  meets b = go (maybe-meets tail b) (maybe-meets edge.below b) (maybe-meets edge.above b)
    where
      go : ((it : NewCell) × (tail ≡ Some it) × (b ≡ it.block)) ⊎ ((it : NewCell) → tail ≡ Some it → b ≢ it.block)
          → ((it : NewCell) × (edge.below ≡ Some it) × (b ≡ it.block))
          ⊎ ((it : NewCell) → edge.below ≡ Some it → b ≢ it.block)
          → ((it : NewCell) × (edge.above ≡ Some it) × (b ≡ it.block))
          ⊎ ((it : NewCell) → edge.above ≡ Some it → b ≢ it.block)
          → ((a : Path) × (it : NewCell) × IsAt old m tail edge a it × (b ≡ it.block)) ⊎
          ((a : Path) (it : NewCell) → IsAt old m tail edge a it → b ≢ it.block)
      go (inl (it, e, eb)) y z = inl (path_of (old / 1024), it, AtTail e refl, eb)
      go (inr x) (inl (it, e, eb)) z = inl (below_path m, it, AtBelow e refl, eb)
      go (inr x) (inr y) (inl (it, e, eb)) = inl (InRecord 9, it, AtAbove e refl, eb)
      go (inr x) (inr y) (inr z) = inr (λ a it at. none a it at)
        where
          none : (a : Path) (it : NewCell) → IsAt old m tail edge a it → b ≢ it.block
          none a it (AtTail e s) = x it e
          none a it (AtBelow e s) = y it e
          none a it (AtAbove e s) = z it e

-- Which slots these are

module _ (X : Image) (i g size : ℕ) (r : Record) (tail : Option NewCell) (edge : Edge) (c2 : Cell)
    (h : Cuts X i g size r tail edge c2) where
  abbrev pub m : ℕ
  m = kept_slots r.size size

  pub most : kept_slots r.size size ≤ slot_limit
  most = let a = h.old in omega (arith, a)

  pub tail-at : (it : NewCell) → tail ≡ Some it → TailAt X i r.size size it
  tail-at it e = elim (cases_lt size r.size) [
    | inl less ↦ absurd (let n = h.tail_is.skips (inl less) in cc (n, e))
    | inr grows ↦ elim (cases_eq (r.size % 1024) 0) [
      | inl even ↦ absurd (let n = h.tail_is.skips (inr even) in cc (n, e))
      | inr uneven ↦ go grows uneven (find X i (path_of (r.size / 1024))) refl (h.tail_is.ends grows uneven)
    ]
  ]
    where
      go : r.size ≤ size → r.size % 1024 ≢ 0 → (q : PathAnswer)
          → find X i (path_of (r.size / 1024)) ≡ q → IsTailOf X q (r.size % 1024) tail
          → TailAt X i r.size size it
      go grows uneven answer.Hole ef none = cc (none, e)
      go grows uneven answer.Lost ef none = cc (none, e)
      go grows uneven (answer.Holds x) ef (w, some, block, tag, payload) =
          let s : w ≡ it = same-some tail w it some e in
          subst (λ (q : NewCell). TailAt X i r.size size q) s (record {
            grows = grows;
            uneven = uneven;
            pointer = x;
            held = ef;
            block = block;
            tag = tag;
            payload = payload;
          })

  pub at-tail : (x : Pointer) → r.size ≤ size → r.size % 1024 ≢ 0 → find X i (path_of (r.size / 1024)) ≡ answer.Holds x
      → (it : NewCell) × (tail ≡ Some it) × (it.block ≡ x.block)
      × (it.cell.payload ≡ trimmed (r.size % 1024) (cell_at X x.block).payload)
  at-tail x grows uneven held =
      let t : IsTailOf X (answer.Holds x) (r.size % 1024) tail =
      subst (λ (q : PathAnswer). IsTailOf X q (r.size % 1024) tail) held
      (h.tail_is.ends grows uneven) in
      (t.0, t.1, t.2, t.4)

  from-block : (a : Path) (from : ℕ) (o : Option NewCell) (it : NewCell) → is_pointer_slot a ≡ true → IsSlot a
      → Inside (kept_slots r.size size) a from
      → IsCutBlock X (find X i a) from o → o ≡ Some it → PointersAt X i (kept_slots r.size size) a it
  from-block a from o it points slot inside cut e = go (find X i a) refl cut
    where
      go : (q : PathAnswer) → find X i a ≡ q → IsCutBlock X q from o → PointersAt X i (kept_slots r.size size) a it
      go answer.Hole ef none = cc (none, e)
      go answer.Lost ef none = absurd none
      go (answer.Holds x) ef (w, some, block, cell) =
          let s : w ≡ it = same-some o w it some e in
          subst (λ (q : NewCell). PointersAt X i (kept_slots r.size size) a q) s
          (record {
            points = points;
            slot = slot;
            pointer = x;
            held = ef;
            block = block;
            from = from;
            inside = inside;
            cut = cell;
          })

  child-slot : IsSlot (Under (InRecord 9) (last_child (kept_slots r.size size)))
  child-slot = (refl, child-low (kept_slots r.size size) most, omega arith)

  pub below-at : (it : NewCell) → edge.below ≡ Some it
      → PointersAt X i (kept_slots r.size size) (below_path (kept_slots r.size size)) it
  below-at it e = elim (cases_lt 8 (kept_slots r.size size)) [
    | inr near ↦ absurd (let n = (h.edge_is.near near).0 in cc (n, e))
    | inl past ↦ elim (cases_lt 72 (kept_slots r.size size)) [
      | inr leaf ↦ subst (λ (a : Path). PointersAt X i (kept_slots r.size size) a it)
          (sym (near-path (kept_slots r.size size) leaf))
          (from-block (InRecord 8) (kept_slots r.size size - 8) edge.below it refl (omega arith)
          (leaf-inside (kept_slots r.size size) past leaf)
          (h.edge_is.leaf past leaf).0 e)
      | inl far ↦ subst (λ (a : Path). PointersAt X i (kept_slots r.size size) a it)
          (sym (far-path (kept_slots r.size size) far))
          (from-block (Under (InRecord 9) (last_child (kept_slots r.size size)))
          (kept_slots r.size size - (72 + 64 * last_child (kept_slots r.size size)))
          edge.below it refl child-slot (child-inside (kept_slots r.size size) far) (h.edge_is.far far).child e)
    ]
  ]

  pub above-at : (it : NewCell) → edge.above ≡ Some it
      → (72 < kept_slots r.size size) × PointersAt X i (kept_slots r.size size) (InRecord 9) it
  above-at it e = elim (cases_lt 8 (kept_slots r.size size)) [
    | inr near ↦ absurd (let n = (h.edge_is.near near).1 in cc (n, e))
    | inl past ↦ elim (cases_lt 72 (kept_slots r.size size)) [
      | inr leaf ↦ absurd (let n = (h.edge_is.leaf past leaf).1 in cc (n, e))
      | inl far ↦ (
        far,
        from-block (InRecord 9) (last_child (kept_slots r.size size) + 1) edge.above it refl (omega arith)
            (top-inside (kept_slots r.size size) far) (h.edge_is.far far).top e,
      )
    ]
  ]

  -- a slot whose cell is written holds
  pub record Held (a : Path) (it : NewCell) : Type 0 where
    pub slot : IsSlot a
    pub pointer : Pointer
    pub held : find X i a ≡ answer.Holds pointer
    pub block : it.block ≡ pointer.block
    pub tag : it.cell.tag ≡ (cell_at X pointer.block).tag

  pub tail-low : r.size % 1024 ≢ 0 → r.size / 1024 < slot_limit
  tail-low uneven = let a = h.old in
      elim (cases_lt (r.size / 1024) slot_limit) [ inl low ↦ low | inr high ↦ absurd (uneven (omega (arith, a, high))) ]

  pub held-at : (a : Path) (it : NewCell) → IsAt r.size (kept_slots r.size size) tail edge a it → Held a it
  held-at a it (AtTail e s) = let t = tail-at it e in subst (λ (q : Path). Held q it) (sym s)
      (record {
        slot = path_of-slot (r.size / 1024) (tail-low t.uneven);
        pointer = t.pointer;
        held = t.held;
        block = t.block;
        tag = t.tag;
      })
  held-at a it (AtBelow e s) = let t = below-at it e in subst (λ (q : Path). Held q it) (sym s)
      (record { slot = t.slot; pointer = t.pointer; held = t.held; block = t.block; tag = t.cut.tag })
  held-at a it (AtAbove e s) = let t = (above-at it e).1 in subst (λ (q : Path). Held q it) (sym s)
      (record { slot = t.slot; pointer = t.pointer; held = t.held; block = t.block; tag = t.cut.tag })

  -- one slot has one block, and one block one slot
  pub same-slot : (a b : Path) (x y : Pointer) → IsSlot a → IsSlot b → find X i a ≡ answer.Holds x
      → find X i b ≡ answer.Holds y → x.block ≡ y.block → a ≡ b
  same-slot a b x y sa sb ha hb e = let w = one-owner X i i a b x y ha hb e in
      sym (path_of-slot_of a sa) ∙ ap path_of w.1 ∙ path_of-slot_of b sb

  pub content-apart : (it : NewCell) (a : Path) → tail ≡ Some it
      → is_pointer_slot a ≡ true → path_of (r.size / 1024) ≡ a → ⊥
  content-apart it a e points s = let c = path_of-content (r.size / 1024) (tail-low (tail-at it e).uneven) in
      let z : is_pointer_slot
      (path_of (r.size / 1024)) ≡ true = ap is_pointer_slot s ∙ points in cc (c, z)

  pub below-apart : (it w : NewCell) → edge.below ≡ Some it → edge.above ≡ Some w
      → below_path (kept_slots r.size size) ≡ InRecord 9 → ⊥
  below-apart it w e f s = let z : Under (InRecord 9) (last_child (kept_slots r.size size)) ≡ InRecord 9 = sym
      (far-path (kept_slots r.size size) (above-at w f).0) ∙ s in cc z

  pub same-at : (a b : Path) (it w : NewCell) → IsAt r.size (kept_slots r.size size) tail edge a it
      → IsAt r.size (kept_slots r.size size) tail edge b w
      → a ≡ b → it ≡ w
  same-at a b it w (AtTail e s) (AtTail f t) q = same-some tail it w e f
  same-at a b it w (AtTail e s) (AtBelow f t) q =
      absurd (content-apart it (below_path (kept_slots r.size size)) e (below-at w f).points (sym s ∙ q ∙ t))
  same-at a b it w (AtTail e s) (AtAbove f t) q = absurd (content-apart it (InRecord 9) e refl (sym s ∙ q ∙ t))
  same-at a b it w (AtBelow e s) (AtTail f t) q =
      absurd (content-apart w (below_path (kept_slots r.size size)) f (below-at it e).points (sym t ∙ sym q ∙ s))
  same-at a b it w (AtBelow e s) (AtBelow f t) q = same-some edge.below it w e f
  same-at a b it w (AtBelow e s) (AtAbove f t) q = absurd (below-apart it w e f (sym s ∙ q ∙ t))
  same-at a b it w (AtAbove e s) (AtTail f t) q = absurd (content-apart w (InRecord 9) f refl (sym t ∙ sym q ∙ s))
  same-at a b it w (AtAbove e s) (AtBelow f t) q = absurd (below-apart w it f e (sym t ∙ sym q ∙ s))
  same-at a b it w (AtAbove e s) (AtAbove f t) q = same-some edge.above it w e f
