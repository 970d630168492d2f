-- A Put at any depth: the slots of its way and those beside it, and the numbers that it writes.
use Rattle.std.proofs.Common.{◌≡◌, ◌≢◌, ℕ, ◌+◌, ◌*◌, ◌/◌, ◌<◌, ◌⊎◌, max, inl, inr, true}
use Rattle.std.proofs.Common.{leb, ltb, ◌&&◌, length, Some, refl, sym, ap, ◌∙◌, subst, subst₂}
use Rattle.nofs_ptrs.specs.Paths.{slot_limit, Path, InRecord, Under, path_of, is_pointer_slot, IsSlot}
use Rattle.nofs_disk.specs.Disk.{cell_at}
use Rattle.nofs_disk.specs.declared.tag.Cell.{Cell}
use Rattle.nofs_inode.specs.declared.inode.Record.{Record}
use Rattle.nofs_super.specs.declared.superblock.SuperBlock.{SuperBlock}
use Rattle.nofs_disk.specs.Pointer.{is_null}
use Rattle.nofs_ptrs.specs.Cells.{pointer_at}
use Rattle.nofs_model.specs.Geometry.{Image, inode}
use Rattle.nofs_model.specs.Slots.{find, pointer, record_pointer, IsAbove}
use Rattle.nofs_model.specs.declared.image.path.PathAnswer.TheVariants as answer
use Rattle.nofs_model.proofs.OnSlots.Find.{find-held}
use Rattle.nofs_ptrs.specs.PathLaws.{path_of-slot_of}
use Rattle.nofs_model.proofs.OnSlots.Paths.{path_of-content}
use Rattle.nofs_model.proofs.OnSound.Writes.{supers}
use Rattle.nofs_history.specs.Machine.{put_given, put_content, files_after}
use Rattle.nofs_history.specs.Claims.{next_stamp, slot_above}
use Rattle.nofs_history.specs.History.{FilesMatch}
use Rattle.nofs_crashlaw.specs.Files.Growth.{Grows, IsPlaced}
use Rattle.nofs_crashlaw.proofs.OnFiles.Claims.{not-null}
use Rattle.nofs_crashlaw.proofs.OnUntouched.Matches.{matched-file}
use Rattle.nofs_crashlaw.proofs.OnUntouched.Inodes.{one-owner}
use Rattle.nofs_crashlaw.specs.Maps.Fresh.{Numbered, CellNumbers}
use Rattle.nofs_crashlaw.specs.Files.Puts.{PutLies, ClaimsPlaced}
use Rattle.nofs_crashlaw.proofs.OnFiles.Puts.{law-put-files}
use Rattle.nofs_crashlaw.specs.Numbers.Cells.{RecordWritten, AsBefore}
use Rattle.nofs_crashlaw.proofs.OnNumbers.Files.{law-put-cells, law-put-record, tag-same}
use Rattle.nofs_crashlaw.proofs.OnNumbers.Tables.{law-table-numbers}
use Rattle.nofs_disk.specs.Order.{OneOf}
use Rattle.nofs_state.proofs.OnWrites.Tables.{table_block, table-records}
use Rattle.nofs_files.proofs.OnPuts.Ways.{IsNew, IsOld, IsChanged, way_writes, new-or-old, new-above, old-above}
use Rattle.nofs_files.proofs.OnPuts.Ways.{old-up, old-ends, changed-is, way-changed, up-changed, step-down, one-is}
use Rattle.nofs_files.proofs.OnPuts.Image.{ImageShown, after}

-- what is shown of the slots on its way and beside it, and of the numbers that it writes
pub record SlotsShown : Type 1 where
  pub image : ImageShown
  pub open image use *
  pub grows : Grows (next_stamp p.world) old.now (after climb) i way places
  pub lies : PutLies p.world.files old.now (after climb) i g slot at bytes own.file (next_stamp p.world) places
  pub not_both : (a : Path) → IsNew m way a → IsOld m way a → ⊥
  pub placed : ClaimsPlaced c old.now i slot places
  pub files : FilesMatch (files_after p.world.files (put_given p.world.files i g slot at bytes)) (after climb)
  pub numbers : (n : ℕ) (cell : Cell) → OneOf (way_writes places cells (table_block i, c2) m way) n cell
      → CellNumbers (Numbered p.world c) old.now n cell

module _ (shown : ImageShown) where
  open shown use {climb, old, p, i, g, slot, at, bytes, r', m, way, places, cells, c, c2, h, match, own, file}
  open shown use {generation, size, value_here, slot_of_way, free, area, changed_above, same_place, stays, data_stays}
  open shown use {cell_here, super_stays, here, old_numbers, old_pointers, names, tag_new, tag_old, touches}

  abbrev X : Image
  X = old.now

  abbrev Y : Image
  Y = after climb

  pub not-both : (a : Path) → IsNew m way a → IsOld m way a → ⊥
  not-both a n d = h.empty a n (places a) (h.old a d)

  -- below a slot that stays, the block that leads to it stays
  leads : (a : Path) (n : ℕ) → IsOld m way (Under a n) → cell_at Y (places a).block ≡ cell_at X (places a).block
  leads a n d = data_stays (places a).block (area a (old-above m way a (old-up m way a n d))) (λ b q e.
      let s : a ≡ b = same_place a b (old-above m way a (old-up m way a n d)) (changed_above b q) e in
      old-ends m way a n (subst (λ (w : Path). IsChanged m way w) (sym s) q) d)

  placed-at : (a : Path) → IsAbove a way → IsNew m way a ⊎ IsOld m way a → IsPlaced Y i places a
  placed-at (InRecord n) u (inl w) = ap (λ (q : Record). record_pointer q n) here ∙ h.pointer_new n w
  placed-at (InRecord n) u (inr d) = ap (λ (q : Record). record_pointer q n) here
      ∙ h.pointers_old n (λ w. not-both (InRecord n) w d)
      ∙ ap (λ (q : Record). record_pointer q n) (sym h.file.rec)
      ∙ (find-held X i (InRecord n) (places (InRecord n)) (h.old (InRecord n) d)).same
  placed-at (Under b n) u (inl w) =
      ap (λ (q : Cell). pointer_at q.payload n) (cell_here b (up-changed m way b n w)) ∙ h.next b n w
  placed-at (Under b n) u (inr d) =
      let up = h.old b (old-up m way b n d) in
      let e : pointer X i (Under b n) ≡ pointer_at (cell_at X (places b).block).payload n = rw (up, pointer) refl in
      ap (λ (q : Cell). pointer_at q.payload n) (leads b n d) ∙ sym e
      ∙ (find-held X i (Under b n) (places (Under b n)) (h.old (Under b n) d)).same

  -- the slot of content has none below
  not-way : (b : Path) (n : ℕ) → IsSlot (Under b n) → b ≡ way → ⊥
  not-way b n s e =
      let t : IsSlot (Under (path_of slot) n) = subst (λ (q : Path). IsSlot (Under q n)) (e ∙ sym h.file.path)
      s in content-slot slot h.file.range t.0
    where
      content-slot : (q : ℕ) → q < slot_limit → is_pointer_slot (path_of q) ≡ true → ⊥
      content-slot q lt t = let z = path_of-content q lt in cc (z, t)

  beside : (b : Path) (n : ℕ) → IsSlot (Under b n) → IsAbove b way → (IsAbove (Under b n) way → ⊥)
      → ((find X i b ≡ answer.Holds (places b))
      × (pointer_at (cell_at Y (places b).block).payload n ≡ pointer_at (cell_at X (places b).block).payload n))
      ⊎ ((find X i b ≡ answer.Hole) × (is_null (pointer_at (cell_at Y (places b).block).payload n) ≡ true))
  beside b n s u off = elim (step-down b way u) [
    | inl e ↦ absurd (not-way b n s e)
    | inr (q, v) ↦ go q (λ e. off (subst (λ (t : ℕ). IsAbove (Under b t) way) (sym e) v))
        (new-or-old m way (Under b q) v) (new-or-old m way b u)
  ]
    where
      go : (q : ℕ) → n ≢ q → IsNew m way (Under b q) ⊎ IsOld m way (Under b q) → IsNew m way b ⊎ IsOld m way b
          → ((find X i b ≡ answer.Holds (places b))
          × (pointer_at (cell_at Y (places b).block).payload n ≡ pointer_at (cell_at X (places b).block).payload n))
          ⊎ ((find X i b ≡ answer.Hole) × (is_null (pointer_at (cell_at Y (places b).block).payload n) ≡ true))
      go q ne (inl w) (inl z) = inr (
        h.hole b q w z,
        ap (λ (t : Cell). is_null (pointer_at t.payload n)) (cell_here b (up-changed m way b q w))
            ∙ h.beside_new b q n w z ne s.1,
      )
      go q ne (inl w) (inr d) = inl (
        h.old b d,
        ap (λ (t : Cell). pointer_at t.payload n) (cell_here b (up-changed m way b q w))
            ∙ h.beside_old b q n w d ne s.1,
      )
      go q ne (inr d) z = inl (h.old b (old-up m way b q d), ap (λ (t : Cell). pointer_at t.payload n) (leads b q d))

  pub grows : Grows (next_stamp p.world) X Y i way places
  grows = record {
    placed = λ a u. placed-at a u (new-or-old m way a u);
    not_null = λ a u. not-null X (places a) (area a u);
    area = λ a u. subst (λ (q : SuperBlock). (leb (1 + q.inodes / 4) (places a).block && ltb (places a).block q.blocks)
        ≡ true) (sym (supers X Y super_stays))
        (area a u);
    tag = λ a u. elim (new-or-old m way a u) [
      | inl n ↦ tag_new a n
      | inr d ↦ tag_old a d ∙ (find-held X i a (places a) (h.old a d)).agrees.tag
          ∙ ap Some (sym (tag-same X Y i a (places a).stamp names.kind names.generation))
    ];
    record_stays = λ n off. ap (λ (q : Record). record_pointer q n) here
        ∙ h.pointers_old n (λ w. off (new-above m way (InRecord n) w))
        ∙ ap (λ (q : Record). record_pointer q n) (sym h.file.rec);
    beside = beside;
    apart = λ b y s off held. data_stays y.block
        (find-held X i b y held).agrees.area (λ a q e. elim (changed-is m way a q) [
          | inl n ↦ free a n i b y s h.file.agrees held e
          | inr d ↦ (let w = one-owner X i i b a y (places a) held (h.old a d) e in
              let t : b ≡ a = sym (path_of-slot_of b s) ∙ ap path_of w.1
              ∙ path_of-slot_of a (slot_of_way a (old-above m way a d)) in
              off (subst (λ (v : Path). IsAbove v way) (sym t) (old-above m way a d)))
        ]);
  }

  pub lies : PutLies p.world.files X Y i g slot at bytes own.file (next_stamp p.world) places
  lies = record {
    files = match;
    is = own.is;
    generation = generation;
    file = file;
    range = h.file.range;
    touches = touches;
    names = names;
    size = ap (λ (q : Record). q.size) here
        ∙ h.grew.size ∙ ap (λ (n : ℕ). max n (1024 * slot + at + length bytes)) (sym size);
    grows = subst (λ (q : Path). Grows (next_stamp p.world) X Y i q places) (sym h.file.path) grows;
    content = ap (λ (q : Path). (cell_at Y (places q).block).payload) h.file.path
        ∙ ap (λ (q : Cell). q.payload) (cell_here way (way-changed m way)) ∙ h.content
        ∙ (λ j. put_content (sym value_here j) (sym size j) slot at bytes);
    old = λ j some. old_pointers j (matched-file p.world.files X j match some).live;
  }

  pub placed : ClaimsPlaced c X i slot places
  placed = record {
    cell = λ t. ap places h.file.path ∙ h.cell t;
    leaf = λ t. subst (λ (q : Path). IsAbove (slot_above q) q × (places (slot_above q) ≡ c.leaf))
        (sym h.file.path) (h.leaf t);
    top = λ t. subst (λ (q : Path). IsAbove (slot_above (slot_above q)) q
        × (places (slot_above (slot_above q)) ≡ c.top)) (sym h.file.path) (h.top t);
    each = λ a u. elim (new-or-old m way a (subst (λ (q : Path). IsAbove a q) h.file.path u))
        [ inl n ↦ inr (h.claimed a n, λ y held. h.empty a n y held) | inr d ↦ inl (h.old a d) ];
  }

  to-slot : (a : Path) → IsAbove a way → IsAbove a (path_of slot)
  to-slot a u = subst (λ (q : Path). IsAbove a q) (sym h.file.path) u

  numbers-at : (a : Path) → IsAbove a way
      → CellNumbers (Numbered p.world c) X (places a).block (cell_at Y (places a).block)
  numbers-at a u = elim (step-down a way u) [
    | inl e ↦ subst (λ (q : Path). CellNumbers (Numbered p.world c) X (places q).block (cell_at Y (places q).block))
        (h.file.path ∙ sym e)
        (law-put-cells p.world X Y i g slot at bytes own.file (next_stamp p.world) places c old_numbers lies placed).0
    | inr (n, v) ↦
        (law-put-cells p.world X Y i g slot at bytes own.file (next_stamp p.world) places c old_numbers lies placed).1 a
        (to-slot a u)
        (let s = slot_of_way (Under a n) v in s.0)
  ]

  table-numbers : CellNumbers (Numbered p.world c) X (table_block i) c2
  table-numbers = law-table-numbers p.world c X (table_block i) c2 old_numbers h.file.tag_table
      (λ j e s. elim (table-records X i r' c2 h.file.has j e s) [
        | inl new ↦ subst (λ (q : Record). RecordWritten p.world c X j q)
            (sym (new.1 ∙ sym here ∙ ap (inode Y) (sym new.0)))
            ((law-put-record p.world X Y i g slot at bytes own.file
            (next_stamp p.world) places c old_numbers lies placed).1 j)
        | inr was ↦ AsBefore was
      ])

  pub numbers : (n : ℕ) (cell : Cell) → OneOf (way_writes places cells (table_block i, c2) m way) n cell
      → CellNumbers (Numbered p.world c) X n cell
  numbers n cell one = elim (one-is places cells (table_block i, c2) m way n cell one) [
    | inl e ↦ subst₂ (λ (q : ℕ) (d : Cell). CellNumbers (Numbered p.world c) X q d) (sym e.0) (sym e.1) table-numbers
    | inr (a, q, eb, ec) ↦ subst₂ (λ (b : ℕ) (d : Cell). CellNumbers (Numbered p.world c) X b d) (sym eb)
        (cell_here a q ∙ sym ec) (numbers-at a (changed_above a q))
  ]

  abbrev pub slots-shown : SlotsShown
  slots-shown = record {
    image = shown;
    grows = grows;
    lies = lies;
    files = law-put-files p.world.files X Y i g slot at bytes own.file (next_stamp p.world) places lies;
    not_both = not-both;
    placed = placed;
    numbers = numbers;
  }
