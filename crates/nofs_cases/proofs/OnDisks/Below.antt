-- Every number on these images is below a bound.
use Rattle.std.proofs.Common.{◌≡◌, ◌≢◌, ℕ, zero, suc, ◌-◌, ◌%◌, ◌<◌, ◌≤◌, true, leb, Option, Some, IfSome, All, refl}
use Rattle.std.proofs.Common.{sym, ap, ◌∙◌, subst, arith, leb-true}
use Rattle.std.proofs.lemmas.List.{get_or-replicate}
use Rattle.nofs_disk.specs.declared.tag.Cell.{Cell}
use Rattle.nofs_disk.specs.declared.tag.Kind.TheVariants.{Directory, Leaf}
use Rattle.nofs_disk.specs.declared.tag.Tag.{Tag}
use Rattle.nofs_disk.specs.declared.tag.Pointer.{Pointer}
use Rattle.nofs_inode.specs.declared.inode.Record.{Record}
use Rattle.nofs_super.specs.declared.superblock.SuperBlock.{SuperBlock}
use Rattle.nofs_disk.specs.Tag.{tag_of}
use Rattle.nofs_ptrs.specs.Cells.{pointer_at}
use Rattle.nofs_inode.specs.InodeRecords.{record_at, free_record}
use Rattle.nofs_dirent.specs.Entries.{entry_in}
use Rattle.nofs_disk.specs.Pointer.{null}
use Rattle.nofs_disk.specs.Disk.{cell_at}
use Rattle.nofs_model.specs.Geometry.{super_at, is_inode}
use Rattle.nofs_model.specs.Slots.{record_pointer}
use Rattle.nofs_model.specs.Sound.{TagBelow, RecordBelow, CellBelow}
use Rattle.nofs_model.proofs.OnSlots.Find.{and-both}
use Rattle.nofs_cases.specs.Disks.Images.{blank, super_block, image_of, first_table}
use Rattle.nofs_cases.proofs.OnDisks.Images.{HasRecords, numbers-are, blank-tag, super-tag, table-tag}
use Rattle.nofs_cases.proofs.OnDisks.Slots.{IsPlain, others-stamp}
use Rattle.nofs_crashlaw.specs.Machine.Worlds.{no_links}

-- a tag that is no directory's and no block of pointers'
pub tag-low : (s : ℕ) (c : Cell) (t : Tag) → tag_of c.tag ≡ Some t
    → t.generation < s → t.stamp < s → t.kind ≢ Directory → t.kind ≢ Leaf → TagBelow s c
tag-low s c t e g m nd nl = record {
  own = subst (λ (o : Option Tag). IfSome o (λ t. (t.generation < s) × (t.stamp < s))) (sym e) (g, m);
  entries = subst (λ (o : Option Tag). IfSome o
      (λ t. t.kind ≡ Directory → (j : ℕ) → j < 16 → IfSome (entry_in c.payload j) (λ e. e.generation < s))) (sym e)
      (λ k. absurd (nd k));
  pointers = subst (λ (o : Option Tag). IfSome o
      (λ t. t.kind ≡ Leaf → (j : ℕ) → j < 64 → (pointer_at c.payload j).stamp < s)) (sym e) (λ k. absurd (nl k));
}

-- inodes are counted from 1 to 4
pub range-is : (t x y : Cell) (i : ℕ) → is_inode (image_of t x y) i ≡ true → (1 ≤ i) × (i ≤ 4)
range-is t x y i e =
    let b = and-both (leb 1 i) (leb i (super_at (image_of t x y)).inodes) e in
    let n = ap (λ (q : SuperBlock). q.inodes) (numbers-are t x y) in
    let l = leb-true i (super_at (image_of t x y)).inodes b.1 in
    (leb-true 1 i b.0, omega (arith, l, n))

-- only block 1 has records
pub plain-cell : (s : ℕ) (t x y : Cell) (b : ℕ) (c : Cell) → b ≢ 1 → TagBelow s c → CellBelow s (image_of t x y) b c
plain-cell s t x y b c ne low = record {
  tag = low;
  records = λ i r e live. let n = range-is t x y i r in absurd (ne (omega (arith, n, e)));
}

-- a record with one pointer at most
pub record-low : (s : ℕ) (r : Record) (x : Pointer) → IsPlain r x
    → r.generation < s → All (λ l. l.generation < s) r.links → x.stamp < s → RecordBelow s r
record-low s r x is g links lt = record { generation = g; links = links; pointers = each }
  where
    each : (n : ℕ) → n < 10 → (record_pointer r n).stamp < s
    each zero low = let e : (record_pointer r 0).stamp ≡ x.stamp = ap (λ (q : Record). (record_pointer q 0).stamp) is in
        omega (arith, e, lt)
    each (suc m) low = let e = others-stamp r x is m in omega (arith, e, lt)

pub no-links-low : (s : ℕ) → 0 < s → All (λ l. l.generation < s) no_links
no-links-low s some zero d lt = some
no-links-low s some (suc zero) d lt = some
no-links-low s some (suc (suc zero)) d lt = some
no-links-low s some (suc (suc (suc zero))) d lt = some
no-links-low s some (suc (suc (suc (suc k)))) d lt = absurd (omega (arith, lt))

pub free-low : (s : ℕ) → 0 < s → RecordBelow s free_record
free-low s some = record-low s free_record null refl some (no-links-low s some) some

pub record RecordsLow (s : ℕ) (a b c : Record) : Type 0 where
  pub one : RecordBelow s a
  pub two : RecordBelow s b
  pub three : RecordBelow s c

-- the records of a table
pub records-low : (s : ℕ) (t x y u : Cell) (a b c : Record) → 0 < s → HasRecords u a b c → RecordsLow s a b c
    → (i : ℕ) → is_inode (image_of t x y) i ≡ true
    → RecordBelow s (record_at u.payload ((i - 1) % 4))
records-low s t x y u a b c some h l i r = go i (range-is t x y i r)
  where
    go : (i : ℕ) → (1 ≤ i) × (i ≤ 4) → RecordBelow s (record_at u.payload ((i - 1) % 4))
    go zero n = absurd (omega (arith, n))
    go (suc zero) n = subst (RecordBelow s) (sym h.one) l.one
    go (suc (suc zero)) n = subst (RecordBelow s) (sym h.two) l.two
    go (suc (suc (suc zero))) n = subst (RecordBelow s) (sym h.three) l.three
    go (suc (suc (suc (suc zero)))) n = subst (RecordBelow s) (sym h.four) (free-low s some)
    go (suc (suc (suc (suc (suc m))))) n = absurd (omega (arith, n))

pub table-cell : (s : ℕ) (t x y u : Cell) (a b c : Record) → 0 < s → u.tag ≡ first_table.tag → HasRecords u a b c
    → RecordsLow s a b c
    → CellBelow s (image_of t x y) 1 u
table-cell s t x y u a b c some tag h l = record {
  tag = tag-low s u _ (ap tag_of tag ∙ table-tag) some some (λ e. cc e) (λ e. cc e);
  records = λ i r e live. records-low s t x y u a b c some h l i r;
}

pub blank-low : (s : ℕ) → 0 < s → TagBelow s blank
blank-low s some = tag-low s blank _ blank-tag some some (λ e. cc e) (λ e. cc e)

-- each cell of an image
pub cells-low : (s : ℕ) (t x y u v w : Cell) → 0 < s → CellBelow s (image_of t x y) 1 u → TagBelow s v → TagBelow s w
    → (b : ℕ) → b < 16
    → CellBelow s (image_of t x y) b (cell_at (image_of u v w) b)
cells-low s t x y u v w some table two three zero lt = plain-cell s t x y 0 super_block (λ e. absurd (omega (arith, e)))
    (tag-low s super_block _ super-tag some some (λ e. cc e) (λ e. cc e))
cells-low s t x y u v w some table two three (suc zero) lt = table
cells-low s t x y u v w some table two three (suc (suc zero)) lt =
    plain-cell s t x y 2 v (λ e. absurd (omega (arith, e))) two
cells-low s t x y u v w some table two three (suc (suc (suc zero))) lt =
    plain-cell s t x y 3 w (λ e. absurd (omega (arith, e))) three
cells-low s t x y u v w some table two three (suc (suc (suc (suc n)))) lt =
    subst (λ (c : Cell). CellBelow s (image_of t x y) (suc (suc (suc (suc n)))) c)
    (sym (get_or-replicate 12 n blank _ (omega (arith, lt))))
    (plain-cell s t x y (suc (suc (suc (suc n)))) blank (λ e. absurd (omega (arith, e))) (blank-low s some))
