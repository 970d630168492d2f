-- Where each cell that a read gives is below a bound, each live record and each tag of the data area is.
use Rattle.std.proofs.Common.{◌≡◌, ℕ, ◌+◌, ◌-◌, ◌/◌, ◌%◌, ◌<◌, ◌≤◌, Bool, true, false, cond, leb, ltb, leb-true}
use Rattle.std.proofs.Common.{ltb-true, Option, Some, IfSome, refl, sym, subst, arith}
use Rattle.nofs_disk.specs.declared.tag.Tag.{Tag}
use Rattle.nofs_inode.specs.declared.inode.Record.{Record}
use Rattle.nofs_disk.specs.Tag.{tag_of}
use Rattle.nofs_inode.specs.InodeRecords.{record_at, free_record, is_live}
use Rattle.nofs_model.specs.Geometry.{Image, super_at, is_data_block, is_inode, inode}
use Rattle.nofs_disk.specs.Disk.{cell_at}
use Rattle.nofs_model.specs.Sound.{CellBelow}
use Rattle.nofs_model.proofs.OnSlots.Find.{and-both}

-- a live record is one of the table
pub record Stands (X : Image) (j : ℕ) : Type 0 where
  pub range : is_inode X j ≡ true
  pub same : inode X j ≡ record_at (cell_at X (1 + (j - 1) / 4)).payload ((j - 1) % 4)

pub live-stands : (X : Image) (j : ℕ) → is_live (inode X j) ≡ true → Stands X j
unfolding inode
live-stands X j live = go (is_inode X j) refl live
  where
    go : (b : Bool) → is_inode X j ≡ b → is_live
        (cond b (record_at (cell_at X (1 + (j - 1) / 4)).payload ((j - 1) % 4)) free_record) ≡ true → Stands X j
    go true e l = record { range = e; same = rw e refl }
    go false e l = cc

some-of : {A : Type 0} (P : A → Type 0) (o : Option A) (x : A) → o ≡ Some x → IfSome o P → P x
some-of P o x e h = subst (λ q. IfSome q P) e h

-- every live record is below the bound
pub live-below : (X : Image) (s n : ℕ) → ((b : ℕ) → b < n → CellBelow s X b (cell_at X b)) → (super_at X).blocks ≤ n
    → 2 + (super_at X).inodes / 4 ≤ (super_at X).blocks
    → (j : ℕ) → is_live (inode X j) ≡ true → (inode X j).generation < s
live-below X s n own fits table j live =
    let st = live-stands X j live in
    let both = and-both (leb 1 j) (leb j (super_at X).inodes) st.range in
    let high : j ≤ (super_at X).inodes = leb-true j (super_at X).inodes both.1 in
    let low : 1 + (j - 1) / 4 < n = omega (arith, high, fits, table) in
    let live' : is_live (record_at (cell_at X (1 + (j - 1) / 4)).payload ((j - 1) % 4)) ≡ true =
    subst (λ (r : Record). is_live r ≡ true) st.same live in
    subst (λ (r : Record). r.generation < s) (sym st.same)
    ((own (1 + (j - 1) / 4) low).records j st.range refl live').generation

-- every tag of the data area is below the bound
pub tag-below : (X : Image) (s n : ℕ) → ((b : ℕ) → b < n → CellBelow s X b (cell_at X b)) → (super_at X).blocks ≤ n
    → (b : ℕ) (t : Tag) → is_data_block X b ≡ true → tag_of (cell_at X b).tag ≡ Some t → t.stamp < s
tag-below X s n own fits b t area is =
    let both = and-both (leb (1 + (super_at X).inodes / 4) b) (ltb b (super_at X).blocks) area in
    let low : b < n = let lt = ltb-true b (super_at X).blocks both.1 in omega (arith, lt, fits) in
    (some-of (λ (t : Tag). (t.generation < s) × (t.stamp < s)) (tag_of (cell_at X b).tag) t is (own b low).tag.own).1
