-- What a format leaves is sound.
use Rattle.std.proofs.Common.{◌≡◌, ◌≢◌, ℕ, zero, suc, ◌+◌, ◌-◌, ◌*◌, ◌/◌, ◌%◌, ◌^◌, ◌<◌, Bool, true, false, cond, eqb}
use Rattle.std.proofs.Common.{leb, length, get_or, Option, Some, IfSome, refl, sym, ap, ◌∙◌, subst, arith, eqb-true}
use Rattle.nofs_disk.specs.Number.{zeros, put_number, number_at}
use Rattle.nofs_disk.specs.Tag.{tag_bytes, zero_cell, tag_of}
use Rattle.nofs_disk.specs.OneSpelling.{SpellsTag-tag_bytes, tag_of-spells}
use Rattle.nofs_super.specs.Spelling.{super_of-payload}
use Rattle.nofs_super.specs.Format.{super_payload, super_cell, first_records, table_cell, fresh_super, formatted_cell}
use Rattle.nofs_inode.specs.declared.inode.FileKind.TheVariants as file
use Rattle.nofs_disk.specs.declared.tag.Cell.{Cell}
use Rattle.nofs_disk.specs.declared.tag.Kind.{Kind}
use Rattle.nofs_disk.specs.declared.tag.Kind.TheVariants.{Nothing, Directory, Leaf, Table, Super}
use Rattle.nofs_disk.specs.declared.tag.Tag.{Tag}
use Rattle.nofs_inode.specs.declared.inode.FileKind.{FileKind}
use Rattle.nofs_super.specs.declared.superblock.SuperBlock.{SuperBlock}
use Rattle.nofs_inode.specs.InodeRecords.{free_record, is_live, record_of, record_at, fields_in, link_in}
use Rattle.nofs_disk.specs.Pointer.{pointer_in}
use Rattle.nofs_ptrs.specs.Cells.{pointer_at}
use Rattle.nofs_dirent.specs.Entries.{entry_in}
use Rattle.nofs_model.specs.Geometry.{Image, super_at}
use Rattle.nofs_disk.specs.Disk.{cell_at}
use Rattle.nofs_super.specs.Super.{super_in, is_super}
use Rattle.nofs_model.specs.Slots.{record_pointer}
use Rattle.nofs_model.specs.Sound.{TagBelow, RecordBelow, CellBelow, LawFormatted}
use Rattle.nofs_super.specs.Geometry.{IsGeometry}
use Rattle.nofs_model.proofs.OnSound.Writes.{mountable-law}
use Rattle.nofs_model.proofs.OnGeometry.Super.{spells}
use Rattle.nofs_model.proofs.OnGeometry.Vectors.{new_record}

-- a tag without generation and stamp, of a kind that names nothing
record IsPlain (t : Tag) : Type 0 where
  generation : t.generation ≡ 0
  stamp : t.stamp ≡ 0
  not_directory : t.kind ≢ Directory
  not_leaf : t.kind ≢ Leaf

plain-below : (bound : ℕ) (c : Cell) (t : Tag) → 0 < bound → tag_of c.tag ≡ Some t → IsPlain t → TagBelow bound c
plain-below bound c t some e p =
    let g = p.generation in
    let s = p.stamp in
    record {
      own = subst (λ (o : Option Tag). IfSome o (λ t. (t.generation < bound) × (t.stamp < bound))) (sym e)
          (omega (arith, some, g), omega (arith, some, s));
      entries = subst (λ (o : Option Tag). IfSome o
          (λ t. t.kind ≡ Directory → (j : ℕ) → j < 16 → IfSome (entry_in c.payload j) (λ e. e.generation < bound)))
          (sym e) (λ k. absurd (p.not_directory k));
      pointers = subst (λ (o : Option Tag). IfSome o
          (λ t. t.kind ≡ Leaf → (j : ℕ) → j < 64 → (pointer_at c.payload j).stamp < bound)) (sym e)
          (λ k. absurd (p.not_leaf k));
    }

abbrev tag_with : Kind → ℕ → Tag
tag_with kind slot = record { kind = kind; inode = 0; generation = 0; slot = slot; stamp = 0 }

super-tag : tag_of (tag_bytes (tag_with Super 0)) ≡ Some (tag_with Super 0)
super-tag = tag_of-spells (tag_bytes (tag_with Super 0)) (tag_with Super 0)
    (SpellsTag-tag_bytes (tag_with Super 0)
    (record { inode = omega arith; generation = omega arith; slot = omega arith; stamp = omega arith }) tt)

table-tag : (b : ℕ) → b < 2 ^ 64 → tag_of (tag_bytes (tag_with Table b)) ≡ Some (tag_with Table b)
table-tag b lt = tag_of-spells (tag_bytes (tag_with Table b)) (tag_with Table b)
    (SpellsTag-tag_bytes (tag_with Table b)
    (record { inode = omega arith; generation = omega arith; slot = lt; stamp = omega arith }) tt)

zero-tag : tag_of (zero_cell.tag) ≡ Some (tag_with Nothing 0)
unfolding tag_of number_at zero_cell zeros
zero-tag = refl

-- the records of a table
no-record : (j : ℕ) → j < 4 → record_at (zeros 1024) j ≡ free_record
unfolding record_at record_of fields_in link_in pointer_in number_at zeros
no-record zero lt = refl
no-record (suc zero) lt = refl
no-record (suc (suc zero)) lt = refl
no-record (suc (suc (suc zero))) lt = refl
no-record (suc (suc (suc (suc j)))) lt = absurd (omega (arith, lt))

root-record : record_at first_records 0 ≡ new_record 1 file.Directory
unfolding record_at record_of fields_in link_in pointer_in number_at zeros put_number first_records
root-record = refl

label-record : record_at first_records 1 ≡ new_record 2 file.File
unfolding record_at record_of fields_in link_in pointer_in number_at zeros put_number first_records
label-record = refl

third-record : record_at first_records 2 ≡ free_record
unfolding record_at record_of fields_in link_in pointer_in number_at zeros put_number first_records
third-record = refl

fourth-record : record_at first_records 3 ≡ free_record
unfolding record_at record_of fields_in link_in pointer_in number_at zeros put_number first_records
fourth-record = refl

new-links : (k : ℕ) (g : ℕ) (kind : FileKind) (d : _) → k < 4 → (get_or (new_record g kind).links k d).generation ≡ 0
new-links zero g kind d lt = refl
new-links (suc zero) g kind d lt = refl
new-links (suc (suc zero)) g kind d lt = refl
new-links (suc (suc (suc zero))) g kind d lt = refl
new-links (suc (suc (suc (suc k)))) g kind d lt = absurd (omega (arith, lt))

new-pointers : (n : ℕ) (g : ℕ) (kind : FileKind) → n < 10 → (record_pointer (new_record g kind) n).stamp ≡ 0
new-pointers zero g kind lt = refl
new-pointers (suc zero) g kind lt = refl
new-pointers (suc (suc zero)) g kind lt = refl
new-pointers (suc (suc (suc zero))) g kind lt = refl
new-pointers (suc (suc (suc (suc zero)))) g kind lt = refl
new-pointers (suc (suc (suc (suc (suc zero))))) g kind lt = refl
new-pointers (suc (suc (suc (suc (suc (suc zero)))))) g kind lt = refl
new-pointers (suc (suc (suc (suc (suc (suc (suc zero))))))) g kind lt = refl
new-pointers (suc (suc (suc (suc (suc (suc (suc (suc zero)))))))) g kind lt = refl
new-pointers (suc (suc (suc (suc (suc (suc (suc (suc (suc zero))))))))) g kind lt = refl
new-pointers (suc (suc (suc (suc (suc (suc (suc (suc (suc (suc n)))))))))) g kind lt = absurd (omega (arith, lt))

new-below : (bound g : ℕ) (kind : FileKind) → g < bound → RecordBelow bound (new_record g kind)
new-below bound g kind lt = record {
  generation = lt;
  links = λ k d low. let z = new-links k g kind d low in omega (arith, z, lt);
  pointers = λ n low. let z = new-pointers n g kind low in omega (arith, z, lt);
}

-- each live record of a fresh table cell is one of the two
first-below : (bound j : ℕ)
    → 2 < bound → j < 4 → is_live (record_at first_records j) ≡ true → RecordBelow bound (record_at first_records j)
first-below bound zero big lt live =
    subst (RecordBelow bound) (sym root-record) (new-below bound 1 file.Directory (omega (arith, big)))
first-below bound (suc zero) big lt live =
    subst (RecordBelow bound) (sym label-record) (new-below bound 2 file.File big)
first-below bound (suc (suc zero)) big lt live = cc (ap is_live third-record, live)
first-below bound (suc (suc (suc zero))) big lt live = cc (ap is_live fourth-record, live)
first-below bound (suc (suc (suc (suc j)))) big lt live = absurd (omega (arith, lt))

zeros-below : (bound j : ℕ)
    → j < 4 → is_live (record_at (zeros 1024) j) ≡ true → RecordBelow bound (record_at (zeros 1024) j)
zeros-below bound j lt live = cc (ap is_live (no-record j lt), live)

table-below : (bound j b : ℕ) → 2 < bound → j < 4 → is_live (record_at (table_cell b).payload j) ≡ true
    → RecordBelow bound (record_at (table_cell b).payload j)
unfolding table_cell
table-below bound j b big lt live = go (eqb b 1) live
  where
    go : (q : Bool) → is_live (record_at (cond q first_records (zeros 1024)) j) ≡ true
        → RecordBelow bound (record_at (cond q first_records (zeros 1024)) j)
    go true live = first-below bound j big lt live
    go false live = zeros-below bound j lt live

super-below : (bound : ℕ) (X : Image) (it : SuperBlock) → 2 < bound → CellBelow bound X 0 (super_cell it)
unfolding super_cell
super-below bound X it big = record {
  tag = plain-below bound (super_cell it) (tag_with Super 0) (omega (arith, big)) super-tag
      (record { generation = refl; stamp = refl; not_directory = λ e. cc e; not_leaf = λ e. cc e });
  records = λ i range eb live. absurd (omega (arith, eb));
}

table-cell-below : (bound b : ℕ) (X : Image) → 2 < bound → b < 2 ^ 64 → CellBelow bound X b (table_cell b)
unfolding table_cell
table-cell-below bound b X big lt = record {
  tag = plain-below bound (table_cell b) (tag_with Table b) (omega (arith, big)) (table-tag b lt)
      (record { generation = refl; stamp = refl; not_directory = λ e. cc e; not_leaf = λ e. cc e });
  records = λ i range eb live. table-below bound ((i - 1) % 4) b big (omega arith) live;
}

zero-below : (bound b : ℕ) (X : Image) → 2 < bound → CellBelow bound X b zero_cell
unfolding zero_cell
zero-below bound b X big = record {
  tag = plain-below bound zero_cell (tag_with Nothing 0) (omega (arith, big)) zero-tag
      (record { generation = refl; stamp = refl; not_directory = λ e. cc e; not_leaf = λ e. cc e });
  records = λ i range eb live. zeros-below bound ((i - 1) % 4) (omega arith) live;
}

cell-below : (bound blocks inodes b : ℕ) (X : Image)
    → 2 < bound → b < 2 ^ 64 → CellBelow bound X b (formatted_cell blocks inodes b)
unfolding formatted_cell
cell-below bound blocks inodes b X big lt = go (eqb b 0) refl (leb b (inodes / 4))
  where
    go : (z : Bool) → eqb b 0 ≡ z → (q : Bool)
        → CellBelow bound X b (cond z (super_cell (fresh_super blocks inodes)) (cond q (table_cell b) zero_cell))
    go true e q = subst (λ (n : ℕ). CellBelow bound X n (super_cell (fresh_super blocks inodes))) (sym (eqb-true b 0 e))
        (super-below bound X (fresh_super blocks inodes) big)
    go false e true = table-cell-below bound b X big lt
    go false e false = zero-below bound b X big

super-payload : (blocks inodes : ℕ)
    → (super_cell (fresh_super blocks inodes)).payload ≡ super_payload (fresh_super blocks inodes)
unfolding super_cell
super-payload blocks inodes = refl

first-cell : (blocks inodes : ℕ) → formatted_cell blocks inodes 0 ≡ super_cell (fresh_super blocks inodes)
unfolding formatted_cell
first-cell blocks inodes = refl

pub formatted-law : LawFormatted
unfolding super_at
formatted-law X blocks inodes g cells =
    let some = g.some_blocks in let most = g.most_blocks in let few = g.most_inodes in
    let it : SuperBlock = fresh_super blocks inodes in
    let payload : (cell_at X 0).payload ≡ super_payload it =
    ap (λ (c : Cell). c.payload) (cells 0 (omega arith) ∙ first-cell blocks inodes) ∙ super-payload blocks inodes in
    let s = spells (super_payload it) it
    (super_of-payload it (omega arith) (omega arith) (omega arith) (omega arith) refl) in
    let numbers : super_at X ≡ it = ap super_in payload ∙ s.numbers in
    let spelled : is_super (cell_at X 0).payload ≡ true = ap is_super payload ∙ s.spelled in
    let b_is : (super_at X).blocks ≡ blocks = ap (λ (q : SuperBlock). q.blocks) numbers in
    let i_is : (super_at X).inodes ≡ inodes = ap (λ (q : SuperBlock). q.inodes) numbers in
    let m_is : (super_at X).mount ≡ 0 = ap (λ (q : SuperBlock). q.mount) numbers in
    let fits : IsGeometry (length X) (super_at X).blocks (super_at X).inodes =
    subst (λ (q : SuperBlock). IsGeometry (length X) q.blocks q.inodes) (sym numbers) g in
    record {
      mountable = (mountable-law X).0 (record { spelled = spelled; fits = fits });
      mount = omega (arith, m_is);
      below = λ b lt.
          let lt' : b < blocks = omega (arith, lt, b_is) in
          subst (λ (c : Cell). CellBelow (((super_at X).mount + 1) * 2 ^ 40) X b c) (sym (cells b lt'))
          (cell-below (((super_at X).mount + 1) * 2 ^ 40) blocks inodes b X (omega (arith, m_is))
          (omega (arith, lt', most)));
    }
