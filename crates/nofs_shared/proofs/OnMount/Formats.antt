-- What a format leaves is sound, and blank.
use Rattle.std.proofs.Common.{◌≡◌, ◌≢◌, ℕ, zero, suc, ◌+◌, ◌-◌, ◌/◌, ◌%◌, ◌<◌, Bool, true, false, cond, eqb, leb}
use Rattle.std.proofs.Common.{eqb-true, List, [], ◌∷◌, length, get_or, drop, refl, sym, ap, ◌∙◌, subst, arith}
use Rattle.std.specs.Prelude.{is_none}
use Rattle.std.specs.List.{list_all}
use Rattle.std.proofs.lemmas.Bool.{and_parts, leb-true}
use Rattle.std.proofs.lemmas.List.{get_or_append_left}
use Rattle.nofs_disk.specs.Disk.{DiskState, no_cell, cell_at}
use Rattle.nofs_disk.specs.Number.{put_number, zeros, number_at}
use Rattle.nofs_disk.specs.Tag.{zero_cell}
use Rattle.nofs_super.specs.Format.{IsFormatted, cell_at-formatted, first_records, formatted, formatted_cell}
use Rattle.nofs_super.specs.Format.{fresh_super, length-first_formatted, super_cell, super_payload, table_cell}
use Rattle.nofs_super.specs.Geometry.{IsGeometry, is_geometry, is_geometry-parts}
use Rattle.nofs_super.specs.Spelling.{super_of-payload}
use Rattle.nofs_disk.specs.declared.tag.Cell.{Cell}
use Rattle.nofs_disk.specs.declared.tag.Pointer.{Pointer}
use Rattle.nofs_inode.specs.declared.inode.Record.{Record}
use Rattle.nofs_super.specs.declared.superblock.SuperBlock.{SuperBlock}
use Rattle.nofs_inode.specs.InodeRecords.{fields_in, free_record, link_in, record_at, record_of}
use Rattle.nofs_disk.specs.Pointer.{is_null, null, pointer_in}
use Rattle.nofs_model.specs.Geometry.{Image, inode, is_inode, super_at}
use Rattle.nofs_model.specs.Slots.{record_pointer}
use Rattle.nofs_super.specs.Super.{super_in}
use Rattle.nofs_model.proofs.OnSound.Writes.{mountable-law}
use Rattle.nofs_model.proofs.OnGeometry.Super.{spells}
use Rattle.nofs_shared.specs.Laws.{IsBlank, LawFirstDisk}

-- a record without pointers
abbrev HasNone : Record → Type 0
HasNone r = (list_all is_null r.direct ≡ true) × (is_null r.leaf ≡ true) × (is_null r.top ≡ true)

nulls : (xs : List Pointer) (n : ℕ) → list_all is_null xs ≡ true → is_null (get_or xs n null) ≡ true
nulls [] n e = refl
nulls (x ∷ xs) zero e = (and_parts (is_null x) (list_all is_null xs) e).0
nulls (x ∷ xs) (suc n) e = nulls xs n (and_parts (is_null x) (list_all is_null xs) e).1

no-pointers : (r : Record) (n : ℕ) → HasNone r → is_null (record_pointer r n) ≡ true
no-pointers r n h = go (eqb n 8) (eqb n 9)
  where
    go : (a b : Bool) → is_null (cond a r.leaf (cond b r.top (get_or r.direct n null))) ≡ true
    go true b = h.1
    go false true = h.2
    go false false = nulls r.direct n h.0

-- the records of each cell of a formatted disk are such
zero-records : (j : ℕ) → j < 4 → HasNone (record_at (zeros 1024) j)
unfolding record_at record_of fields_in link_in pointer_in number_at zeros
zero-records zero lt = (refl, refl, refl)
zero-records (suc zero) lt = (refl, refl, refl)
zero-records (suc (suc zero)) lt = (refl, refl, refl)
zero-records (suc (suc (suc zero))) lt = (refl, refl, refl)
zero-records (suc (suc (suc (suc j)))) lt = absurd (omega (arith, lt))

table-records : (j : ℕ) → j < 4 → HasNone (record_at first_records j)
unfolding record_at record_of fields_in link_in pointer_in number_at zeros put_number first_records
table-records zero lt = (refl, refl, refl)
table-records (suc zero) lt = (refl, refl, refl)
table-records (suc (suc zero)) lt = (refl, refl, refl)
table-records (suc (suc (suc zero))) lt = (refl, refl, refl)
table-records (suc (suc (suc (suc j)))) lt = absurd (omega (arith, lt))

cell-records : (blocks inodes b j : ℕ) → b ≢ 0 → j < 4 → HasNone (record_at (formatted_cell blocks inodes b).payload j)
unfolding formatted_cell table_cell zero_cell
cell-records blocks inodes b j ne lt = go (eqb b 0) refl (leb b (inodes / 4)) (eqb b 1)
  where
    go : (z : Bool) → eqb b 0 ≡ z → (q t : Bool) → HasNone (record_at
        (cond z (super_cell (fresh_super blocks inodes))
        (cond q (record { payload = cond t first_records (zeros 1024); tag = (table_cell b).tag })
        zero_cell)).payload j)
    go true e q t = absurd (ne (eqb-true b 0 e))
    go false e true true = table-records j lt
    go false e true false = zero-records j lt
    go false e false t = zero-records j lt

super-payload : (it : SuperBlock) → (super_cell it).payload ≡ super_payload it
unfolding super_cell
super-payload it = refl

first-cell : (blocks inodes : ℕ) → formatted_cell blocks inodes 0 ≡ super_cell (fresh_super blocks inodes)
unfolding formatted_cell
first-cell blocks inodes = refl

-- an image in which block 0, and then each block, is as a format writes it
module _ (X : Image) (device blocks inodes : ℕ) (g : IsGeometry device blocks inodes)
    (first : cell_at X 0 ≡ formatted_cell blocks inodes 0) where
  numbers-are : super_at X ≡ fresh_super blocks inodes
  unfolding super_at
  numbers-are =
      let most = g.most_blocks in let few = g.most_inodes in
      let it : SuperBlock = fresh_super blocks inodes in
      let payload : (cell_at X 0).payload ≡ super_payload it =
      ap (λ (c : Cell). c.payload) (first ∙ first-cell blocks inodes) ∙ super-payload it in
      ap super_in payload ∙ (spells (super_payload it) it
      (super_of-payload it (omega arith) (omega (arith, most)) (omega (arith, few)) (omega arith)
      refl)).numbers

  module _ (cells : (b : ℕ) → b < blocks → cell_at X b ≡ formatted_cell blocks inodes b) where
    has-none : (i : ℕ) → HasNone (inode X i)
    unfolding inode
    has-none i = go (is_inode X i) refl
      where
        go : (b : Bool) → is_inode X i ≡ b
            → HasNone (cond b (record_at (cell_at X (1 + (i - 1) / 4)).payload ((i - 1) % 4)) free_record)
        go true e =
            let most = leb-true i (super_at X).inodes (and_parts (leb 1 i) (leb i (super_at X).inodes) e).1 in
            let same : (super_at X).inodes ≡ inodes = ap (λ (q : SuperBlock). q.inodes) numbers-are in
            let table = g.table in
            subst (λ (c : Cell). HasNone (record_at c.payload ((i - 1) % 4)))
            (sym (cells (1 + (i - 1) / 4) (omega (arith, most, same, table))))
            (cell-records blocks inodes (1 + (i - 1) / 4) ((i - 1) % 4) (omega arith) (omega arith))
        go false e = (refl, refl, refl)

    blank : IsBlank X
    blank = record {
      mount = ap (λ (q : SuperBlock). q.mount) numbers-are;
      empty = λ i n lt. no-pointers (inode X i) n (has-none i);
    }

-- what was accepted is a geometry
accepted-parts : (blocks inodes : ℕ) (old new : DiskState) → IsFormatted blocks inodes old new
    → IsGeometry old.blocks blocks inodes
unfolding is_geometry
accepted-parts blocks inodes old new f = is_geometry-parts old.blocks blocks inodes (ap (λ o. is_none o) f.accepted)

pub first-disk : (old new : DiskState) → LawFirstDisk old new
first-disk old new blocks inodes told f q X p = blank X old.blocks blocks inodes g first-is cells
  where
    g : IsGeometry old.blocks blocks inodes
    g = accepted-parts blocks inodes old new f

    now-is : (b : ℕ) → b < blocks → cell_at new.now b ≡ formatted_cell blocks inodes b
    now-is b low =
        ap (λ (l : Image). cell_at l b) (f.now told)
        ∙ get_or_append_left (formatted blocks inodes) (drop blocks old.now) no_cell b (let e =
        length-first_formatted blocks inodes blocks in omega (arith, low, e))
        ∙ cell_at-formatted blocks inodes b low

    cell-is : (b : ℕ) → b < new.blocks → b < blocks → cell_at X b ≡ formatted_cell blocks inodes b
    cell-is b here low = f.settled b (cell_at X b) here (p.each b here) ∙ now-is b low

    sound : IsGeometry (length X) (super_at X).blocks (super_at X).inodes
    sound = ((mountable-law X).1 (q.sound X p).mountable).fits

    first-is : cell_at X 0 ≡ formatted_cell blocks inodes 0
    first-is = let s = sound.some_blocks in let n = sound.fits in let l = p.len in let k =
        g.some_blocks in cell-is 0 (omega (arith, s, n, l)) (omega (arith, k))

    cells : (b : ℕ) → b < blocks → cell_at X b ≡ formatted_cell blocks inodes b
    cells b low =
        let n = sound.fits in
        let l = p.len in
        let e : (super_at X).blocks ≡ blocks =
        ap (λ (s : SuperBlock). s.blocks) (numbers-are X old.blocks blocks inodes g first-is) in
        cell-is b (omega (arith, low, n, l, e)) low
