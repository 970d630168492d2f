-- The disk after a cell of the data area and a record of the table were written, and what a step on names gives to
-- files.
use Rattle.std.proofs.Common.{◌≡◌, ◌≢◌, ℕ, ◌+◌, ◌/◌, ◌%◌, ◌<◌, ◌≤◌, Bool, true, false, cond, leb, ltb, leb-true, []}
use Rattle.std.proofs.Common.{◌∷◌, length, Option, Some, None, is_some, refl, ◌∙◌, arith}
use Rattle.std.specs.Prelude.{slice_set}
use Rattle.std.proofs.lemmas.List.{get_or-set_same, get_or-set_other, length-set}
use Rattle.nofs_ptrs.specs.Paths.{slot_limit, path_of}
use Rattle.nofs_disk.specs.Disk.{cell_at, no_cell}
use Rattle.nofs_disk.specs.declared.tag.Cell.{Cell}
use Rattle.nofs_disk.specs.declared.tag.Pointer.{Pointer}
use Rattle.nofs_inode.specs.declared.inode.Record.{Record}
use Rattle.nofs_model.specs.Geometry.{Image, super_at, is_data_block, inode}
use Rattle.nofs_model.specs.Files.{FileState, Files}
use Rattle.nofs_model.specs.declared.image.value.Value.{Value}
use Rattle.nofs_model.proofs.OnSlots.Find.{and-both}
use Rattle.nofs_history.specs.Meta.{Meta, Gone, Is, is_bytes}
use Rattle.nofs_history.specs.Machine.{cell_given, files_after, file_after, after_meta, filled}
use Rattle.nofs_history.specs.Claims.{is_present}
use Rattle.nofs_disk.specs.Order.{WritesOnce, image_after}
use Rattle.nofs_state.proofs.OnWrites.Tables.{HasRecord, table_block, record-here, record-other}
use Rattle.nofs_names.proofs.OnSteps.OneCell.{data-place}
use Rattle.nofs_names.proofs.OnSteps.NoClaims.{block_in, kept-bytes, kept-node}

module _ (X : Image) (i : ℕ) (x : Pointer) (c1 c2 : Cell) (r' : Record) (whole : (super_at X).blocks ≤ length X)
    (table : 2 + (super_at X).inodes / 4 ≤ (super_at X).blocks) (quarters : (super_at X).inodes % 4 ≡ 0)
    (area : is_data_block X x.block ≡ true) (has : HasRecord X i r' c2) where
  abbrev pub after : Image
  after = image_after ((x.block, c1) ∷ (table_block i, c2) ∷ []) X

  above : 1 + (super_at X).inodes / 4 ≤ x.block
  above = (data-place X x.block area).0

  below : x.block < (super_at X).blocks
  below = (data-place X x.block area).1

  inside : (1 ≤ i) × (i ≤ (super_at X).inodes)
  inside = let b = and-both (leb 1 i) (leb i (super_at X).inodes) has.range in
      (leb-true 1 i b.0, leb-true i (super_at X).inodes b.1)

  pub table-low : table_block i ≤ (super_at X).inodes / 4
  table-low = let a = inside in let q = quarters in omega (arith, a, q)

  -- no block of the data area is one of the table
  off : x.block ≢ table_block i
  off e = let a = above in let b = table-low in omega (arith, a, b, e)

  pub once : WritesOnce ((x.block, c1) ∷ (table_block i, c2) ∷ [])
  once = ((off, tt), (tt, tt))

  pub in-table : cell_at after (table_block i) ≡ c2
  in-table = get_or-set_same (slice_set X x.block c1) (table_block i) c2 no_cell
      (let l = length-set X x.block c1 in let a = table-low in let t =
      table in let w = whole in omega (arith, l, a, t, w))

  pub elsewhere : (b : ℕ) → b ≢ x.block → b ≢ table_block i → cell_at after b ≡ cell_at X b
  elsewhere b n m = get_or-set_other (slice_set X x.block c1) (table_block i) b c2 no_cell m
      ∙ get_or-set_other X x.block b c1 no_cell n

  pub in-slot : cell_at after x.block ≡ c1
  in-slot = get_or-set_other (slice_set X x.block c1) (table_block i) x.block c2 no_cell off
      ∙ get_or-set_same X x.block c1 no_cell (let b = below in let w = whole in omega (arith, b, w))

  pub super-stays : cell_at after 0 ≡ cell_at X 0
  super-stays = elsewhere 0 (λ e. let a = above in omega (arith, a, e)) (λ e. omega (arith, e))

  beside : (b : ℕ) → b ≤ (super_at X).inodes / 4 → b ≢ table_block i → cell_at after b ≡ cell_at X b
  beside b l ne = elsewhere b (λ e. let a = above in omega (arith, a, e, l)) ne

  pub record-new : inode after i ≡ r'
  record-new = record-here X after i r' c2 has quarters super-stays in-table beside

  pub record-old : (j : ℕ) → j ≢ i → inode after j ≡ inode X j
  record-old j ne = record-other X after i r' c2 has quarters super-stays in-table beside j ne

  pub data-stays : (b : ℕ) → is_data_block X b ≡ true → b ≢ x.block → cell_at after b ≡ cell_at X b
  data-stays b d ne = elsewhere b ne (λ e.
      let p = and-both (leb (1 + (super_at X).inodes / 4) b) (ltb b (super_at X).blocks) d in
      let a = leb-true (1 + (super_at X).inodes / 4) b p.0 in let l = table-low in omega (arith, a, l, e))

-- A cell is given, and metas with which a file stays

abbrev pub KeepsFile : Option Meta → Type 0
KeepsFile None = Unit {0}
KeepsFile (Some Gone) = ⊥
KeepsFile (Some (Is kind size links)) = Unit {0}

module _ (F : Files) (d g k : ℕ) (v : Value) (metas : ℕ → ℕ → Option Meta) (j : ℕ)
    (keeps : (h : ℕ) → KeepsFile (metas j h)) where
  meta-some : (o : Option Meta) (f : FileState) → KeepsFile o → is_some (after_meta o f) ≡ true
  meta-some None f h = refl
  meta-some (Some Gone) f h = absurd h
  meta-some (Some (Is kind size links)) f h = refl

  meta-block : (o : Option Meta) (f : FileState) (slot : ℕ) → KeepsFile o
      → block_in (Some f) slot ≡ true → block_in (after_meta o f) slot ≡ true
  meta-block None f slot h e = e
  meta-block (Some Gone) f slot h e = absurd h
  meta-block (Some (Is kind size links)) f slot h e = e

  pub file-used : is_some (files_after F (cell_given d g k v metas) j) ≡ is_some (F j)
  file-used = go (F j)
    where
      go : (o : Option FileState) → is_some (file_after (cell_given d g k v metas) j o) ≡ is_some o
      go None = refl
      go (Some f) = meta-some (metas j f.generation) (filled (cell_given d g k v metas) j f) (keeps f.generation)

  pub file-blocks : (slot : ℕ) → is_bytes v ≡ true → block_in (F j) slot ≡ true
      → block_in (files_after F (cell_given d g k v metas) j) slot ≡ true
  file-blocks slot ev = go (F j)
    where
      inside' : (f : FileState) (b : Bool)
          → cond b (is_bytes (f.values slot)) (is_present (f.nodes (path_of slot))) ≡ true
          → cond b (is_bytes ((filled (cell_given d g k v metas) j f).values slot))
          (is_present ((filled (cell_given d g k v metas) j f).nodes (path_of slot))) ≡ true
      inside' f true e = kept-bytes _ v (f.values slot) ev e
      inside' f false e = kept-node _ (f.nodes (path_of slot)) e

      go : (o : Option FileState)
          → block_in o slot ≡ true → block_in (file_after (cell_given d g k v metas) j o) slot ≡ true
      go None e = e
      go (Some f) e = meta-block (metas j f.generation) (filled (cell_given d g k v metas) j f) slot
          (keeps f.generation) (inside' f (ltb slot slot_limit) e)
