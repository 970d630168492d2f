-- Fresh stamps and old contents keep every image sound.
use Rattle.std.proofs.Common.{◌≡◌, ℕ, ◌+◌, ◌*◌, ◌%◌, ◌^◌, ◌<◌, ◌≤◌, true, ◌&&◌, length, Option, Some, None, IfSome}
use Rattle.std.proofs.Common.{refl, sym, ap, subst, arith, leb}
use Rattle.nofs_super.specs.declared.superblock.SuperBlock.{SuperBlock}
use Rattle.nofs_disk.specs.declared.tag.Cell.{Cell}
use Rattle.nofs_dirent.specs.declared.entry.Entry.{Entry}
use Rattle.nofs_inode.specs.declared.inode.Record.{Record}
use Rattle.nofs_disk.specs.declared.tag.Kind.TheVariants.{Directory, Leaf}
use Rattle.nofs_disk.specs.Tag.{tag_of}
use Rattle.nofs_dirent.specs.Entries.{entry_in}
use Rattle.nofs_ptrs.specs.Cells.{pointer_at}
use Rattle.nofs_super.specs.Super.{super_in, is_super}
use Rattle.nofs_super.specs.Geometry.{is_geometry, is_geometry-parts, is_geometry-from}
use Rattle.nofs_model.specs.Geometry.{Image, super_at, is_inode, is_mountable, LawMountable}
use Rattle.nofs_disk.specs.Disk.{cell_at}
use Rattle.nofs_model.specs.Sound.{TagBelow, RecordBelow, LawSound}
use Rattle.nofs_model.proofs.OnSlots.Find.{and-both}

pub if-some : {A : Type 0} → (P Q : A → Type 0) → (o : Option A) → ((x : A) → P x → Q x) → IfSome o P → IfSome o Q
if-some P Q None f h = h
if-some P Q (Some x) f h = f x h

pub tag-below : (a b : ℕ) (c : Cell) → a ≤ b → TagBelow a c → TagBelow b c
tag-below a b c le h = record {
  own = if-some (λ t. (t.generation < a) × (t.stamp < a)) (λ t. (t.generation < b) × (t.stamp < b)) (tag_of c.tag)
      (λ t p. let x = p.0 in let y =
      p.1 in (omega (arith, x, le), omega (arith, y, le))) h.own;
  entries = if-some (λ t. t.kind ≡ Directory → (j : ℕ) → j < 16 → IfSome (entry_in c.payload j) (λ e. e.generation < a))
      (λ t. t.kind ≡ Directory → (j : ℕ)
      → j < 16 → IfSome (entry_in c.payload j) (λ e. e.generation < b)) (tag_of c.tag)
      (λ t f k j lt. if-some (λ (e : Entry). e.generation < a) (λ (e : Entry). e.generation < b) (entry_in c.payload j)
      (λ e p. omega (arith, p, le))
      (f k j lt)) h.entries;
  pointers = if-some (λ t. t.kind ≡ Leaf → (j : ℕ) → j < 64 → (pointer_at c.payload j).stamp < a)
      (λ t. t.kind ≡ Leaf → (j : ℕ) → j < 64
      → (pointer_at c.payload j).stamp < b) (tag_of c.tag)
      (λ t f k j lt. let p = f k j lt in omega (arith, p, le)) h.pointers;
}

pub record-below : (a b : ℕ) (r : Record) → a ≤ b → RecordBelow a r → RecordBelow b r
record-below a b r le h = record {
  generation = let p = h.generation in omega (arith, p, le);
  links = λ k d lt. let p = h.links k d lt in omega (arith, p, le);
  pointers = λ n lt. let p = h.pointers n lt in omega (arith, p, le);
}

pub geometry-fits : (device blocks inodes : ℕ) → is_geometry device blocks inodes ≡ true → (blocks ≤ device)
    × (inodes % 4 ≡ 0)
geometry-fits device blocks inodes e = let g = is_geometry-parts device blocks inodes e in (g.fits, g.multiple)

-- mountable, as a test and as a fact
pub mountable-law : LawMountable
mountable-law X = (
  λ h. rw (h.spelled, is_geometry-from (length X) (super_at X).blocks (super_at X).inodes h.fits) refl,
  λ e. let p = and-both (is_super (cell_at X 0).payload)
      (is_geometry (length X) (super_at X).blocks (super_at X).inodes) e in
      record { spelled = p.0; fits = is_geometry-parts (length X) (super_at X).blocks (super_at X).inodes p.1 },
)

pub supers : (X Y : Image) → cell_at Y 0 ≡ cell_at X 0 → super_at Y ≡ super_at X
unfolding super_at super_in
supers X Y e = ap (λ (c : Cell). super_in c.payload) e

pub ranges : (X Y : Image) (i : ℕ) → cell_at Y 0 ≡ cell_at X 0 → is_inode Y i ≡ true → is_inode X i ≡ true
ranges X Y i e h = subst (λ (q : SuperBlock). (leb 1 i && leb i q.inodes) ≡ true) (supers X Y e) h

mountable-too : (X Y : Image) → is_mountable X ≡ true → length Y ≡ length X → cell_at Y 0 ≡ cell_at X 0
    → is_mountable Y ≡ true
mountable-too X Y m len e = rw (e, len, supers X Y e) m

pub law-sound : LawSound
law-sound bound X Y may mountable mount le all len first picks =
    let e = supers X Y first in
    record {
      mountable = mountable-too X Y mountable len first;
      mount = subst (λ (n : ℕ). n < 2 ^ 24) (ap (λ (q : SuperBlock). q.mount) (sym e)) mount;
      below = λ b lt.
          let ltx : b < (super_at X).blocks = subst (λ (n : ℕ). b < n) (ap (λ (q : SuperBlock). q.blocks) e) lt in
          let fits : (super_at X).blocks ≤ length X = (geometry-fits (length X) (super_at X).blocks (super_at X).inodes
          (and-both (is_super (cell_at X 0).payload)
          (is_geometry (length X) (super_at X).blocks (super_at X).inodes) mountable).1).0 in
          let lty : b < length Y = omega (arith, ltx, fits, len) in
          let c = all b ltx (cell_at Y b) (picks b lty) in
          let le' : bound ≤ ((super_at Y).mount + 1) * 2 ^ 40 =
          subst (λ (n : ℕ). bound ≤ (n + 1) * 2 ^ 40) (ap (λ (q : SuperBlock). q.mount) (sym e)) le in
          record {
            tag = tag-below bound (((super_at Y).mount + 1) * 2 ^ 40) (cell_at Y b) le' c.tag;
            records = λ i range eb live. record-below bound (((super_at Y).mount + 1) * 2 ^ 40) _ le'
                (c.records i (ranges X Y i first range) eb live);
          };
    }
