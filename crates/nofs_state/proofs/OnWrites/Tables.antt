-- One record of the inode table is written.
use Rattle.std.proofs.Common.{◌≡◌, ◌≢◌, ℕ, ◌+◌, ◌-◌, ◌/◌, ◌%◌, ◌<◌, ◌≤◌, ◌⊎◌, inl, inr, Bool, true, false, leb}
use Rattle.std.proofs.Common.{leb-true, ◌&&◌, List, Some, refl, sym, ap, ◌∙◌, subst, arith}
use Rattle.std.proofs.lemmas.Bool.{cases_eq}
use Rattle.nofs_disk.specs.Disk.{cell_at}
use Rattle.nofs_disk.specs.declared.tag.Cell.{Cell}
use Rattle.nofs_inode.specs.declared.inode.Record.{Record}
use Rattle.nofs_super.specs.declared.superblock.SuperBlock.{SuperBlock}
use Rattle.nofs_inode.specs.InodeRecords.{record_at, record_of, free_record, record_or_free}
use Rattle.nofs_model.specs.Geometry.{Image, super_at, is_inode, inode}
use Rattle.nofs_model.proofs.OnSlots.Find.{and-both}
use Rattle.nofs_model.proofs.OnSound.Writes.{supers}

-- the block of the table with the record of an inode
abbrev pub table_block : ℕ → ℕ
table_block i = 1 + (i - 1) / 4

-- the cell has this record in the place of inode i, and is as before beside it
pub record HasRecord (X : Image) (i : ℕ) (r : Record) (c : Cell) : Type 0 where
  pub range : is_inode X i ≡ true
  pub here : record_of ((i - 1) % 4) c.payload ≡ Some r
  pub others : (j : ℕ)
      → j ≢ (i - 1) % 4 → j < 4 → record_of j c.payload ≡ record_of j (cell_at X (table_block i)).payload

read-as : (payload : List ℕ) (n : ℕ) (r : Record) → record_of n payload ≡ Some r → record_at payload n ≡ r
unfolding record_at
read-as payload n r e = ap record_or_free e

same-read : (a b : List ℕ) (n : ℕ) → record_of n a ≡ record_of n b → record_at a n ≡ record_at b n
unfolding record_at
same-read a b n e = ap record_or_free e

in-table : (X : Image) (j : ℕ)
    → is_inode X j ≡ true → inode X j ≡ record_at (cell_at X (table_block j)).payload ((j - 1) % 4)
unfolding inode
in-table X j e = rw e refl

outside : (Z : Image) (j : ℕ) → is_inode Z j ≡ false → inode Z j ≡ free_record
unfolding inode
outside Z j e = rw e refl

range : (X : Image) (i : ℕ) → is_inode X i ≡ true → (1 ≤ i) × (i ≤ (super_at X).inodes)
range X i e = let b = and-both (leb 1 i) (leb i (super_at X).inodes) e in
    (leb-true 1 i b.0, leb-true i (super_at X).inodes b.1)

-- each record of the cell: the new one, or one as before
pub table-records : (X : Image) (i : ℕ) (r : Record) (c : Cell) → HasRecord X i r c
    → (j : ℕ) → is_inode X j ≡ true → table_block j ≡ table_block i
    → ((j ≡ i) × (record_at c.payload ((j - 1) % 4) ≡ r)) ⊎ (record_at c.payload ((j - 1) % 4) ≡ inode X j)
table-records X i r c h j e same = elim (cases_eq j i) [
  | inl here ↦ inl (
    here,
    read-as c.payload ((j - 1) % 4) r (subst (λ (q : ℕ). record_of ((q - 1) % 4) c.payload ≡ Some r) (sym here) h.here),
  )
  | inr other ↦
      let a = range X j e in
      let b = range X i h.range in
      let ne : (j - 1) % 4 ≢ (i - 1) % 4 = λ q. other (omega (arith, q, same, a, b)) in
      inr (same-read c.payload (cell_at X (table_block i)).payload ((j - 1) % 4)
      (h.others ((j - 1) % 4) ne (omega arith))
      ∙ ap (λ (n : ℕ). record_at (cell_at X n).payload ((j - 1) % 4)) (sym same) ∙ sym (in-table X j e))
]

module _ (X Y : Image) (i : ℕ) (r : Record) (c : Cell) (h : HasRecord X i r c) (quarters : (super_at X).inodes % 4 ≡ 0)
    (super : cell_at Y 0 ≡ cell_at X 0)
    (table : cell_at Y (table_block i) ≡ c)
    (beside : (b : ℕ) → b ≤ (super_at X).inodes / 4 → b ≢ table_block i → cell_at Y b ≡ cell_at X b) where
  same-range : (j : ℕ) → is_inode Y j ≡ is_inode X j
  same-range j = ap (λ (q : SuperBlock). leb 1 j && leb j q.inodes) (supers X Y super)

  pub record-here : inode Y i ≡ r
  record-here = in-table Y i (same-range i ∙ h.range) ∙ ap (λ (q : Cell). record_at q.payload ((i - 1) % 4)) table
      ∙ read-as c.payload ((i - 1) % 4) r h.here

  pub record-other : (j : ℕ) → j ≢ i → inode Y j ≡ inode X j
  record-other j ne = go (is_inode X j) refl
    where
      inside : is_inode X j ≡ true → (table_block j ≡ table_block i) ⊎ (table_block j ≢ table_block i)
          → inode Y j ≡ inode X j
      inside e (inl same) = elim (table-records X i r c h j e same) [
        | inl here ↦ absurd (ne here.0)
        | inr was ↦ in-table Y j (same-range j ∙ e) ∙ ap (λ (n : ℕ). record_at (cell_at Y n).payload ((j - 1) % 4)) same
            ∙ ap (λ (q : Cell). record_at q.payload ((j - 1) % 4)) table ∙ was
      ]
      inside e (inr other) =
          let a = range X j e in
          in-table Y j (same-range j ∙ e) ∙ ap (λ (q : Cell). record_at q.payload ((j - 1) % 4))
          (beside (table_block j) (let q = quarters in omega (arith, a, q)) other) ∙ sym (in-table X j e)

      go : (b : Bool) → is_inode X j ≡ b → inode Y j ≡ inode X j
      go false e = outside Y j (same-range j ∙ e) ∙ sym (outside X j e)
      go true e = inside e (cases_eq (table_block j) (table_block i))
