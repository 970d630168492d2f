-- The image after the writes of a Resize: what is cut has no pointer, and the content ends at the new size.
use Rattle.std.proofs.Common.{◌≡◌, ◌≢◌, ℕ, ◌+◌, ◌-◌, ◌*◌, ◌/◌, ◌%◌, ◌<◌, ◌≤◌, ◌⊎◌, min, inl, inr, true, false, eqb, leb}
use Rattle.std.proofs.Common.{leb-true, length, Option, Some, unwrap_or, refl, sym, ap, ◌∙◌, subst}
use Rattle.std.proofs.Common.{arith}
use Rattle.std.proofs.lemmas.Bool.{cases_eq, cases_lt}
use Rattle.nofs_ptrs.specs.Paths.{slot_limit, Path, InRecord, Under, path_of, slot_of, is_pointer_slot, IsSlot}
use Rattle.nofs_disk.specs.Disk.{cell_at}
use Rattle.nofs_disk.specs.declared.tag.Cell.{Cell}
use Rattle.nofs_disk.specs.declared.tag.Pointer.{Pointer}
use Rattle.nofs_inode.specs.declared.inode.Record.{Record}
use Rattle.nofs_disk.specs.Pointer.{is_null}
use Rattle.nofs_ptrs.specs.Cells.{pointer_at}
use Rattle.nofs_inode.specs.InodeRecords.{is_live}
use Rattle.nofs_model.specs.Geometry.{Image, super_at, is_data_block, inode}
use Rattle.nofs_model.specs.Slots.{value_in, find, record_pointer}
use Rattle.nofs_model.specs.Files.{is_folder}
use Rattle.nofs_model.specs.declared.image.path.PathAnswer.{PathAnswer}
use Rattle.nofs_model.specs.declared.image.path.PathAnswer.TheVariants as answer
use Rattle.nofs_model.specs.declared.image.value.Value.{Value}
use Rattle.nofs_model.specs.declared.image.value.Value.TheVariants.{Bytes}
use Rattle.nofs_model.proofs.OnSlots.Find.{find-held}
use Rattle.nofs_ptrs.specs.PathLaws.{path_of-slot, slot_of-path_of}
use Rattle.nofs_model.proofs.OnSlots.Paths.{path_of-content}
use Rattle.nofs_history.specs.Machine.{resize_slot, size_of, slots_in, trimmed, value_of}
use Rattle.nofs_history.specs.World.{World}
use Rattle.nofs_history.specs.Claims.{next_stamp}
use Rattle.nofs_history.specs.History.{FilesMatch}
use Rattle.nofs_crashlaw.specs.Untouched.Frames.{SameNames, OldPointers, Touches}
use Rattle.nofs_crashlaw.proofs.OnFiles.Given.{value-of, size-of}
use Rattle.nofs_crashlaw.proofs.OnUntouched.Matches.{Matched, matched-file}
use Rattle.nofs_crashlaw.specs.Files.Resizes.{is_cut, cut_at, ResizeLies}
use Rattle.nofs_state.proofs.OnWrites.Tables.{table_block}
use Rattle.nofs_files.specs.Resizes.{kept_slots, IsCutBlock, IsCutCell, last_child}
use Rattle.nofs_files.specs.declared.resizes.cuts.NewCell.{NewCell}
use Rattle.nofs_files.proofs.OnResizes.Slots.{Inside, above-cases, below_path, near-path, far-path, leaf-inside}
use Rattle.nofs_files.proofs.OnResizes.Slots.{top-inside, child-inside, only-child, leb-lt, or-one, or-parts}
use Rattle.nofs_files.proofs.OnResizes.Records.{record-cut, record-stays}
use Rattle.nofs_files.proofs.OnResizes.Writes.{AtTail, AtBelow, AtAbove, Held, meets, tail-at, at-tail, below-at}
use Rattle.nofs_files.proofs.OnResizes.Writes.{above-at, same-slot, content-apart, tail-low}
use Rattle.nofs_files.proofs.OnResizes.Image.{Resizing, slot_by, slot-by, slot-end, slot-none}
use Rattle.nofs_files.proofs.OnResizes.Image as image

module _ (resizing : Resizing) where
  open resizing use {old, i, g, size, r, tail, edge, c2, h}

  abbrev W : World
  W = image.W resizing

  abbrev X : Image
  X = image.X resizing

  abbrev m : ℕ
  m = image.m resizing

  abbrev r' : Record
  r' = image.r' resizing

  abbrev Y : Image
  Y = image.Y resizing

  abbrev At : Path → NewCell → Type 0
  At = image.At resizing

  abbrev whole : (super_at X).blocks ≤ length X
  whole = image.whole resizing

  abbrev match : FilesMatch W.files X
  match = image.match resizing

  abbrev own : Matched W.files X i
  own = image.own resizing

  abbrev file : is_folder own.file.kind ≡ false
  file = image.file resizing

  abbrev generation : own.file.generation ≡ g
  generation = image.generation resizing

  abbrev old-size : own.file.size ≡ r.size
  old-size = image.old-size resizing

  abbrev same-cut : (a : Path) → is_cut (cut_at own.file size) a ≡ is_cut (kept_slots r.size size) a
  same-cut = image.same-cut resizing

  abbrev inside : (1 ≤ i) × (i ≤ (super_at X).inodes)
  inside = image.inside resizing

  abbrev off-table : (b : ℕ) → is_data_block X b ≡ true → b ≢ table_block i
  off-table = image.off-table resizing

  abbrev held-of : (a : Path) (it : NewCell) → At a it → Held X i g size r tail edge c2 h a it
  held-of = image.held-of resizing

  abbrev stays : (b : ℕ) → b ≢ table_block i → ((a : Path) (it : NewCell) → At a it → b ≢ it.block)
      → cell_at Y b ≡ cell_at X b
  stays = image.stays resizing

  abbrev cell-here : (a : Path) (it : NewCell) → At a it → cell_at Y it.block ≡ it.cell
  cell-here = image.cell-here resizing

  abbrev here : inode Y i ≡ r'
  here = image.here resizing

  abbrev old-pointers : (j : ℕ) → is_live (inode X j) ≡ true → OldPointers (next_stamp W) X j
  old-pointers = image.old-pointers resizing

  abbrev names : SameNames X Y i
  names = image.names resizing

  abbrev slot-stays : (b : Path) (y : Pointer) → IsSlot b → find X i b ≡ answer.Holds y → ((it : NewCell) → At b it → ⊥)
      → cell_at Y y.block ≡ cell_at X y.block
  slot-stays = image.slot-stays resizing

  abbrev touches : Touches (next_stamp W) (λ j. eqb j i) X Y
  touches = image.touches resizing

  -- The pointers

  cut-there : (b : Path) (n : ℕ) (y : Pointer) (it : NewCell) (from : ℕ) → At b it
      → it.block ≡ y.block → IsCutCell from (cell_at X y.block) it.cell
      → Inside (kept_slots r.size size) b from → n < 64 → is_cut (kept_slots r.size size) (Under b n) ≡ true
      → is_null (pointer_at (cell_at Y y.block).payload n) ≡ true
  cut-there b n y it from at block cell inside low cut = elim (cases_lt n from) [
    | inl before ↦ absurd (let z = inside.before n low before in cc (z, cut))
    | inr behind ↦ ap (λ (c : Cell). is_null (pointer_at c.payload n)) (ap (cell_at Y) (sym block) ∙ cell-here b it at)
        ∙ cell.cut n behind low
  ]

  pointer-cut : (b : Path) (n : ℕ) (y : Pointer) → IsSlot (Under b n)
      → is_cut (kept_slots r.size size) b ≡ false → find X i b ≡ answer.Holds y
      → is_cut (kept_slots r.size size) (Under b n) ≡ true → is_null (pointer_at (cell_at Y y.block).payload n) ≡ true
  pointer-cut b n y s kept held cut = elim (above-cases b n s) [
    | inl e ↦ subst (λ (q : Path). is_cut m q ≡ false → find X i q ≡ answer.Holds y → is_cut m (Under q n) ≡ true
        → is_null (pointer_at (cell_at Y y.block).payload n) ≡ true) (sym e) leaf kept held cut
    | inr t ↦ elim t [
      | inl e ↦ subst (λ (q : Path). is_cut m q ≡ false → find X i q ≡ answer.Holds y → is_cut m (Under q n) ≡ true
          → is_null (pointer_at (cell_at Y y.block).payload n) ≡ true) (sym e) top kept held cut
      | inr (j, low, e) ↦
          subst (λ (q : Path). is_cut m q ≡ false → find X i q ≡ answer.Holds y → is_cut m (Under q n) ≡ true
          → is_null (pointer_at (cell_at Y y.block).payload n) ≡ true) (sym e) (child j) kept held cut
    ]
  ]
    where
      leaf : is_cut (kept_slots r.size size) (InRecord 8) ≡ false → find X i (InRecord 8) ≡ answer.Holds y
          → is_cut (kept_slots r.size size) (Under (InRecord 8) n) ≡ true
          → is_null (pointer_at (cell_at Y y.block).payload n) ≡ true
      leaf k8 hold c =
          let past : 8 < m = leb-lt m 8 k8 in
          let near : m ≤ 72 = elim (or-one (leb m 8) (leb m (8 + n)) c) [
            | inl t ↦ (let z = leb-true m 8 t in omega (arith, z))
            | inr t ↦ (let z = leb-true m (8 + n) t in let low = s.1 in omega (arith, z, low))
          ] in
          let (it, some, block, cell) = subst
          (λ (q : PathAnswer). IsCutBlock X q (kept_slots r.size size - 8) edge.below) hold (h.edge_is.leaf past near).0
          in
          cut-there (InRecord 8) n y it (kept_slots r.size size - 8) (AtBelow some (sym (near-path m near))) block cell
          (leaf-inside m past near) s.1 c

      top : is_cut (kept_slots r.size size) (InRecord 9) ≡ false → find X i (InRecord 9) ≡ answer.Holds y
          → is_cut (kept_slots r.size size) (Under (InRecord 9) n) ≡ true
          → is_null (pointer_at (cell_at Y y.block).payload n) ≡ true
      top k9 hold c =
          let far : 72 < m = leb-lt m 72 k9 in
          let (it, some, block, cell) =
          subst (λ (q : PathAnswer). IsCutBlock X q (last_child (kept_slots r.size size) + 1) edge.above) hold
          (h.edge_is.far far).top in
          cut-there (InRecord 9) n y it (last_child (kept_slots r.size size) + 1) (AtAbove some refl) block cell
          (top-inside m far) s.1 c

      child : (j : ℕ) → is_cut (kept_slots r.size size) (Under (InRecord 9) j) ≡ false
          → find X i (Under (InRecord 9) j) ≡ answer.Holds y
          → is_cut (kept_slots r.size size) (Under (Under (InRecord 9) j) n) ≡ true
          → is_null (pointer_at (cell_at Y y.block).payload n) ≡ true
      child j kj hold c =
          let far : 72 < m = leb-lt m 72 (or-parts (leb m 72) (leb m (72 + 64 * j)) kj).0 in
          let at : j ≡ last_child m = only-child m j n kj c s.1 in
          let (it, some, block, cell) = subst
          (λ (q : PathAnswer). IsCutBlock X q (kept_slots r.size size - (72 + 64 * last_child (kept_slots r.size size)))
          edge.below) (ap (λ (q : ℕ). find X i (Under (InRecord 9) q)) (sym at) ∙ hold) (h.edge_is.far far).child in
          cut-there (Under (InRecord 9) j) n y it
          (kept_slots r.size size - (72 + 64 * last_child (kept_slots r.size size)))
          (AtBelow some (ap (λ (q : ℕ). Under (InRecord 9) q) at ∙ sym (far-path m far))) block cell
          (subst (λ (q : ℕ). Inside m (Under (InRecord 9) q)
          (kept_slots r.size size - (72 + 64 * last_child (kept_slots r.size size)))) (sym at)
          (child-inside m far)) s.1 c

  pointer-kept : (b : Path) (n : ℕ) (y : Pointer) → IsSlot (Under b n) → find X i b ≡ answer.Holds y
      → is_cut (kept_slots r.size size) (Under b n) ≡ false
      → pointer_at (cell_at Y y.block).payload n ≡ pointer_at (cell_at X y.block).payload n
  pointer-kept b n y s held kept = elim (meets r.size m tail edge (table_block i) c2 y.block) [
    | inr none ↦ ap (λ (c : Cell). pointer_at c.payload n)
        (stays y.block (off-table y.block (find-held X i b y held).agrees.area) none)
    | inl (a, it, at, e) ↦
        let q = held-of a it at in
        let t : a ≡ b =
        same-slot X i g size r tail edge c2 h a b q.pointer y q.slot s.2 q.held held (sym (e ∙ q.block)) in
        ap (λ (v : ℕ). pointer_at (cell_at Y v).payload n) e
        ∙ ap (λ (c : Cell). pointer_at c.payload n) (cell-here a it at) ∙ inner a it at t ∙ ap
        (λ (v : ℕ). pointer_at (cell_at X v).payload n) (sym e)
  ]
    where
      within : (it : NewCell) (x : Pointer) (from : ℕ) → it.block ≡ x.block → Inside (kept_slots r.size size) b from
          → IsCutCell from (cell_at X x.block) it.cell
          → pointer_at it.cell.payload n ≡ pointer_at (cell_at X it.block).payload n
      within it x from block inside cell = elim (cases_lt n from) [
        | inl before ↦ cell.kept n before s.1 ∙ ap (λ (v : ℕ). pointer_at (cell_at X v).payload n) (sym block)
        | inr behind ↦ absurd (let z = inside.behind n s.1 behind in cc (z, kept))
      ]

      inner : (a : Path) (it : NewCell) → At a it
          → a ≡ b → pointer_at it.cell.payload n ≡ pointer_at (cell_at X it.block).payload n
      inner a it (AtTail some q) t = absurd (content-apart X i g size r tail edge c2 h it b some s.0 (sym q ∙ t))
      inner a it (AtBelow some q) t = let w = below-at X i g size r tail edge c2 h it some in
          within it w.pointer w.from w.block
          (subst (λ (v : Path). Inside m v w.from) (sym q ∙ t) w.inside) w.cut
      inner a it (AtAbove some q) t = let w = (above-at X i g size r tail edge c2 h it some).1 in
          within it w.pointer w.from w.block
          (subst (λ (v : Path). Inside m v w.from) (sym q ∙ t) w.inside) w.cut

  not-lost : (b : Path) (n : ℕ) → IsSlot (Under b n)
      → is_cut (kept_slots r.size size) b ≡ false → is_cut (kept_slots r.size size) (Under b n) ≡ true
      → find X i b ≢ answer.Lost
  not-lost b n s kept cut lost = elim (above-cases b n s) [
    | inl e ↦ h.edge_is.whole (leb-lt m 8 (ap (is_cut m) (sym e) ∙ kept)) (ap (find X i) (sym e) ∙ lost)
    | inr t ↦ elim t [
      | inl e ↦ subst (λ (q : PathAnswer). IsCutBlock X q (last_child (kept_slots r.size size) + 1) edge.above)
          (ap (find X i) (sym e) ∙ lost)
          (h.edge_is.far (leb-lt m 72 (ap (is_cut m) (sym e) ∙ kept))).top
      | inr (j, low, e) ↦
          let kj : is_cut m (Under (InRecord 9) j) ≡ false = ap (is_cut m) (sym e) ∙ kept in
          let cj : is_cut m (Under (Under (InRecord 9) j) n) ≡ true =
          ap (λ (q : Path). is_cut m (Under q n)) (sym e) ∙ cut in
          let at : j ≡ last_child m = only-child m j n kj cj s.1 in
          let far : 72 < m = leb-lt m 72 (or-parts (leb m 72) (leb m (72 + 64 * j)) kj).0 in
          subst (λ (q : PathAnswer). IsCutBlock X q
          (kept_slots r.size size - (72 + 64 * last_child (kept_slots r.size size))) edge.below)
          (ap (λ (q : ℕ). find X i (Under (InRecord 9) q)) (sym at) ∙ ap (find X i) (sym e) ∙ lost)
          (h.edge_is.far far).child
    ]
  ]

  -- The content

  value-at : (q : ℕ) (y : Pointer) → q < slot_limit → find X i (path_of q) ≡ answer.Holds y
      → resize_slot W.files i size q ≡ slot_by r.size (Bytes (cell_at X y.block).payload) size q
  value-at q y low held =
      let a : size_of W.files i ≡ r.size = size-of W.files i own.file own.is ∙ old-size in
      let b : value_of W.files i q ≡ Bytes (cell_at X y.block).payload = value-of W.files i own.file own.is q
      ∙ own.values q low ∙ ap (value_in X) held in
      slot-by W.files i size q ∙ (λ j. slot_by (a j) (b j) size q)

  pub end-given : (y : Pointer)
      → r.size ≤ size → r.size % 1024 ≢ 0 → find X i (path_of (r.size / 1024)) ≡ answer.Holds y
      → resize_slot W.files i size (r.size / 1024) ≡ Some (Bytes (trimmed (r.size % 1024) (cell_at X y.block).payload))
  end-given y grows uneven held = value-at (r.size / 1024) y (tail-low X i g size r tail edge c2 h uneven) held
      ∙ slot-end r.size size (r.size / 1024)
      (cell_at X y.block).payload grows uneven refl

  content : (q : ℕ) (y : Pointer) → q < slot_limit → q < kept_slots r.size size → find X i (path_of q) ≡ answer.Holds y
      → Bytes (cell_at Y y.block).payload ≡ unwrap_or (resize_slot W.files i size q) (Bytes (cell_at X y.block).payload)
  content q y low before held = go (cases_lt size r.size) (cases_eq (r.size % 1024) 0) (cases_eq q (r.size / 1024))
    where
      other : (size < r.size) ⊎ ((r.size % 1024 ≡ 0) ⊎ (q ≢ r.size / 1024))
          → Bytes (cell_at Y y.block).payload ≡ unwrap_or (resize_slot W.files i size q)
          (Bytes (cell_at X y.block).payload)
      other why =
          ap (λ (c : Cell). Bytes c.payload) (slot-stays (path_of q) y (path_of-slot q low) held off)
          ∙ ap (λ (w : Option Value). unwrap_or w (Bytes (cell_at X y.block).payload))
          (sym (value-at q y low held ∙ slot-none r.size size q (cell_at X y.block).payload before why))
        where
          content-slot : (a : Path) → is_pointer_slot a ≡ true → path_of q ≡ a → ⊥
          content-slot a points e = let c = path_of-content q low in
              let z : is_pointer_slot (path_of q) ≡ true = ap is_pointer_slot e ∙ points in cc (c, z)

          no-end : r.size ≤ size → r.size % 1024 ≢ 0 → path_of q ≡ path_of (r.size / 1024)
              → (size < r.size) ⊎ ((r.size % 1024 ≡ 0) ⊎ (q ≢ r.size / 1024)) → ⊥
          no-end grows uneven e (inl less) = omega (arith, grows, less)
          no-end grows uneven e (inr (inl even)) = uneven even
          no-end grows uneven e (inr (inr ne)) =
              ne (sym (slot_of-path_of q low) ∙ ap slot_of e ∙ slot_of-path_of (r.size / 1024)
              (tail-low X i g size r tail edge c2 h uneven))

          off : (it : NewCell) → At (path_of q) it → ⊥
          off it (AtTail some e) = let t = tail-at X i g size r tail edge c2 h it some in no-end t.grows t.uneven e why
          off it (AtBelow some e) = content-slot (below_path m) (below-at X i g size r tail edge c2 h it some).points e
          off it (AtAbove some e) = content-slot (InRecord 9) refl e

      go : (size < r.size) ⊎ (r.size ≤ size) → (r.size % 1024 ≡ 0) ⊎ (r.size % 1024 ≢ 0)
          → (q ≡ r.size / 1024) ⊎ (q ≢ r.size / 1024)
          → Bytes (cell_at Y y.block).payload ≡ unwrap_or (resize_slot W.files i size q)
          (Bytes (cell_at X y.block).payload)
      go (inl less) e s = other (inl less)
      go (inr grows) (inl even) s = other (inr (inl even))
      go (inr grows) (inr uneven) (inr ne) = other (inr (inr ne))
      go (inr grows) (inr uneven) (inl at) =
          let end : find X i (path_of (r.size / 1024)) ≡ answer.Holds y =
          ap (λ (n : ℕ). find X i (path_of n)) (sym at) ∙ held in
          let (it, some, block, payload) = at-tail X i g size r tail edge c2 h y grows uneven end in
          ap (λ (b : ℕ). Bytes (cell_at Y b).payload) (sym block) ∙ ap (λ (c : Cell). Bytes c.payload)
          (cell-here (path_of (r.size / 1024)) it (AtTail some refl)) ∙ ap Bytes payload
          ∙ sym (ap (λ (w : Option Value). unwrap_or w (Bytes (cell_at X y.block).payload))
          (ap (resize_slot W.files i size) at ∙ end-given y grows uneven end))

  pub lies : ResizeLies W.files X Y i g size own.file (next_stamp W)
  lies = record {
    files = match;
    is = own.is;
    generation = generation;
    file = file;
    touches = touches;
    names = names;
    size_is = ap (λ (q : Record). q.size) here;
    record_cut = λ n t. ap (λ (q : Record). is_null (record_pointer q n)) here
        ∙ record-cut r size m h.eight n (sym (same-cut (InRecord n)) ∙ t);
    record_stays = λ n t. ap (λ (q : Record). record_pointer q n) here
        ∙ record-stays r size m h.eight n (sym (same-cut (InRecord n)) ∙ t) ∙ ap
        (λ (q : Record). record_pointer q n) (sym h.rec);
    cell_cut = λ b n y s kept held cut. pointer-cut b n y s (sym (same-cut b) ∙ kept) held
        (sym (same-cut (Under b n)) ∙ cut);
    cell_stays = λ b n y s kept held t. pointer-kept b n y s held (sym (same-cut (Under b n)) ∙ t);
    whole = λ b n s kept cut. not-lost b n s (sym (same-cut b) ∙ kept) (sym (same-cut (Under b n)) ∙ cut);
    content = λ q y low before held. content q y low
        (subst (λ (n : ℕ). q < min (slots_in n) (slots_in size)) old-size before) held;
    old = λ j some. old-pointers j (matched-file W.files X j match some).live;
  }
