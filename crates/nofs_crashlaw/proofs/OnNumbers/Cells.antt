-- The numbers of a cell in the data area: content, pointers, entries.
use Rattle.std.proofs.Common.{◌≡◌, ◌≢◌, ℕ, suc, ◌+◌, ◌/◌, ◌%◌, ◌<◌, true, leb, ltb, length, Option, None, IfSome, refl}
use Rattle.std.proofs.Common.{sym, ap, ◌∙◌, subst, arith, ltb-true}
use Rattle.nofs_disk.specs.declared.tag.Cell.{Cell}
use Rattle.nofs_inode.specs.InodeRecords.{is_live}
use Rattle.nofs_disk.specs.declared.tag.Kind.TheVariants.{Directory, Leaf}
use Rattle.nofs_disk.specs.declared.tag.Tag.{Tag}
use Rattle.nofs_disk.specs.declared.tag.Pointer.{Pointer}
use Rattle.nofs_dirent.specs.declared.entry.Entry.{Entry}
use Rattle.nofs_ptrs.specs.Cells.{pointer_at}
use Rattle.nofs_dirent.specs.Entries.{entry_in}
use Rattle.nofs_model.specs.Geometry.{Image, super_at, inode}
use Rattle.nofs_disk.specs.Disk.{cell_at}
use Rattle.nofs_ptrs.specs.Paths.{Path, Under}
use Rattle.nofs_model.specs.Slots.{kind_in, tag_for, find}
use Rattle.nofs_model.specs.declared.image.path.PathAnswer.TheVariants as answer
use Rattle.nofs_model.specs.declared.image.value.Value.{Value}
use Rattle.nofs_model.specs.declared.image.value.Value.TheVariants.{Hole}
use Rattle.nofs_model.proofs.OnSlots.Find.{and-both, find-held}
use Rattle.nofs_model.proofs.OnSound.Writes.{if-some}
use Rattle.nofs_history.specs.Machine.{zero_bytes, bytes_in}
use Rattle.nofs_history.specs.World.{World}
use Rattle.nofs_history.specs.Claims.{next_stamp}
use Rattle.nofs_history.specs.declared.machine.history.Claims.{Claims}
use Rattle.nofs_crashlaw.proofs.OnNames.EntryCells.{entry-there, others}
use Rattle.nofs_crashlaw.specs.Maps.Fresh.{Numbered, Old, InContent, InDirectory, InPointers}
use Rattle.nofs_crashlaw.proofs.OnMaps.Fresh.{old-record}
use Rattle.nofs_crashlaw.proofs.OnMaps.Pieces.{law-pointers, law-entry-numbers}
use Rattle.nofs_crashlaw.specs.Numbers.Cells.{OldNumbers, CellFor, LawContentNumbers, LawPointerNumbers, EntriesFrom}
use Rattle.nofs_crashlaw.specs.Numbers.Cells.{Held, Zeros, LawDirectoryNumbers}

-- the generation of a live inode is old
pub old-generation : (W : World) (c : Claims) (X : Image) (i : ℕ) → OldNumbers W X
    → is_live (inode X i) ≡ true → Numbered W c (inode X i).generation
old-generation W c X i o live = Old (old-record (next_stamp W) X i o.mountable o.below live).generation

-- the stamp of a written cell is old, or claimed
cell-stamp : (W : World) (c : Claims) (X : Image) (i : ℕ) (a : Path) (x : Pointer) (cell : Cell) → OldNumbers W X
    → CellFor c X i a x cell
    → Numbered W c x.stamp
cell-stamp W c X i a x cell o p = law-pointers W c X i a x o.positive o.mountable o.below p.live p.slot p.from

pub law-content-numbers : LawContentNumbers
law-content-numbers W c X i a x cell o p kind =
    InContent p.area (tag_for X i a x.stamp) p.tag kind (old-generation W c X i o p.live)
    (cell-stamp W c X i a x cell o p)

pub law-pointer-numbers : LawPointerNumbers
law-pointer-numbers W c X i a x cell o p points from =
    InPointers p.area (tag_for X i a x.stamp) p.tag leaf-kind (old-generation W c X i o p.live)
    (cell-stamp W c X i a x cell o p)
    (λ n lt. law-pointers W c X i (Under a n) (pointer_at cell.payload n) o.positive o.mountable o.below p.live
    (points, lt, p.slot) (from n lt))
  where
    leaf-kind : kind_in (inode X i) a ≡ Leaf
    leaf-kind = rw points refl

-- Entries

-- zeros spell none
no-entries : (j : ℕ) → j < 16 → entry_in (bytes_in Hole) j ≡ None
no-entries j lt =
    let small : j % 16 ≡ j = omega (arith, lt) in
    let apart : j % 16 ≢ suc j % 16 = λ e. omega (arith, e, lt) in
    ap (λ (q : ℕ). entry_in (bytes_in Hole) q) (sym small)
    ∙ sym (others Hole (suc j) (zero_bytes 64) refl refl j apart)
    ∙ entry-there Hole (suc j) j (zero_bytes 64) refl refl (λ e. cc e) apart

-- those of a cell that held are old
pub held-entries : (W : World) (c : Claims) (X : Image) (d : ℕ) (a : Path) (y : Pointer) → OldNumbers W X
    → kind_in (inode X d) a ≡ Directory
    → find X d a ≡ answer.Holds y
    → (j : ℕ) → j < 16 → IfSome (entry_in (cell_at X y.block).payload j) (λ (n : Entry). Numbered W c n.generation)
held-entries W c X d a y o kind held j lt =
    let h = find-held X d a y held in
    let area = and-both (leb (1 + (super_at X).inodes / 4) y.block) (ltb y.block (super_at X).blocks) h.agrees.area in
    let within : y.block < (super_at X).blocks = ltb-true y.block (super_at X).blocks area.1 in
    let p = (o.below y.block within).tag.entries in
    let q = subst (λ (t : Option Tag). IfSome t (λ t. t.kind ≡ Directory → (j : ℕ) → j < 16
    → IfSome (entry_in (cell_at X y.block).payload j) (λ e. e.generation < next_stamp W))) h.agrees.tag p in
    if-some (λ (n : Entry). n.generation < next_stamp W) (λ (n : Entry). Numbered W c n.generation)
    (entry_in (cell_at X y.block).payload j) (λ n z. Old z)
    (q kind j lt)

-- of whatever the cell had before
module _ (W : World) (c : Claims) (X : Image) (d : ℕ) (a : Path) (old : Value) (o : OldNumbers W X)
    (kind : kind_in (inode X d) a ≡ Directory) where
  before-whole : EntriesFrom X d a old → length (bytes_in old) ≡ 1024
  before-whole (Held y held whole e) = ap (λ (v : Value). length (bytes_in v)) e ∙ whole
  before-whole (Zeros e) = ap (λ (v : Value). length (bytes_in v)) e

  before-numbers : EntriesFrom X d a old
      → (j : ℕ) → j < 16 → IfSome (entry_in (bytes_in old) j) (λ (n : Entry). Numbered W c n.generation)
  before-numbers (Held y held whole e) j lt =
      subst (λ (v : Value). IfSome (entry_in (bytes_in v) j) (λ (n : Entry). Numbered W c n.generation)) (sym e)
      (held-entries W c X d a y o kind held j lt)
  before-numbers (Zeros e) j lt =
      subst (λ (v : Value). IfSome (entry_in (bytes_in v) j) (λ (n : Entry). Numbered W c n.generation)) (sym e)
      (subst (λ (q : Option Entry). IfSome q (λ (n : Entry). Numbered W c n.generation)) (sym (no-entries j lt)) tt)

pub law-directory-numbers : LawDirectoryNumbers
law-directory-numbers W c X d a x cell old e bytes o p kind w =
    InDirectory p.area (tag_for X d a x.stamp) p.tag kind (old-generation W c X d o p.live)
    (cell-stamp W c X d a x cell o p)
    (law-entry-numbers W c old e bytes cell.payload (before-whole W c X d a old o kind w.before) w.whole
    (sym w.content) w.number
    (before-numbers W c X d a old o kind w.before))
