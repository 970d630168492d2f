-- The disk after a new entry was written into a hole under a leaf that holds: its block, the leaf, and the records.
use Rattle.std.proofs.Common.{◌≡◌, ◌≢◌, ℕ, ◌-◌, ◌/◌, ◌≤◌, inl, inr, true, List, [], ◌∷◌, length, sym, ap, ◌∙◌}
use Rattle.std.proofs.Common.{arith}
use Rattle.std.specs.Prelude.{slice_set}
use Rattle.std.proofs.lemmas.Bool.{cases_lt}
use Rattle.std.proofs.lemmas.List.{get_or-set_same, length-set}
use Rattle.nofs_disk.specs.Disk.{cell_at, no_cell}
use Rattle.nofs_disk.specs.declared.tag.Cell.{Cell}
use Rattle.nofs_dirent.specs.declared.entry.Entry.{Entry}
use Rattle.nofs_disk.specs.declared.tag.Pointer.{Pointer}
use Rattle.nofs_inode.specs.declared.inode.Record.{Record}
use Rattle.nofs_disk.specs.Tag.{tag_of}
use Rattle.nofs_ptrs.specs.Cells.{pointer_at}
use Rattle.nofs_inode.specs.InodeRecords.{record_of}
use Rattle.nofs_dirent.specs.Entries.{spelled_entry}
use Rattle.nofs_model.specs.Geometry.{Image, super_at, is_data_block, inode}
use Rattle.nofs_ptrs.specs.Paths.{leaf, Under, path_of}
use Rattle.nofs_model.specs.Slots.{find}
use Rattle.nofs_model.specs.Files.{files_in, agreed}
use Rattle.nofs_model.specs.declared.image.path.PathAnswer.TheVariants as answer
use Rattle.nofs_model.proofs.OnSlots.Find.{find-held}
use Rattle.nofs_ptrs.specs.PathLaws.{path-leaf}
use Rattle.nofs_crashlaw.specs.Names.NewEntries.{HoleUnderLeaf, UnderLeaf}
use Rattle.nofs_disk.specs.Order.{OneOf, image_after}
use Rattle.nofs_names.specs.Entries.Tables.{IsTable, table_block}
use Rattle.nofs_state.proofs.OnWrites.Tables.{HasRecord, record-here, record-other}
use Rattle.nofs_state.proofs.OnWrites.ZeroPointers.{past-same}
use Rattle.nofs_names.specs.Entries.Writes.{IsMoreLeaf, IsNewCell}
use Rattle.nofs_names.proofs.OnEntries.InPlace.{written-apart, written-here}
use Rattle.nofs_names.proofs.OnEntries.HoleCells.{EntersHole, HoleFacts, IsReady, IsNewBlock, IsWritten, hole-facts}

module _ (X : Image) (d i e : ℕ) (dr : Record) (ready : IsReady X d i e dr) (s : ℕ) (x y : Pointer)
    (block : IsNewBlock s X x) (agrees : agreed (files_in X) d ≡ true) (held : find X d leaf ≡ answer.Holds y)
    (c u t before-leaf before : Cell) (r : Record) (it : Entry) (high : 8 ≤ e / 16)
    (filled : IsNewCell d dr.generation e it x.stamp c) (more : IsMoreLeaf before-leaf (e / 16 - 8) x u)
    (was : before-leaf ≡ cell_at X y.block) (table : IsTable before i r t)
    (first : before ≡ cell_at X (table_block i))
    (hole : find X d (path_of (e / 16)) ≡ answer.Hole)
    (short : length (spelled_entry it.inode it.generation it.name) ≡ 64) where
  abbrev ws : List (ℕ × Cell)
  ws = (x.block, c) ∷ (y.block, u) ∷ (table_block i, t) ∷ []

  abbrev Y : Image
  Y = image_after ((x.block, c) ∷ (y.block, u) ∷ (table_block i, t) ∷ []) X

  facts : HoleFacts X d e dr
  facts = hole-facts X d i e dr ready

  area : is_data_block X y.block ≡ true
  area = (find-held X d leaf y held).agrees.area

  -- the leaf is owned, and the claimed block is free
  xy : x.block ≢ y.block
  xy q = block.free d leaf y (omega arith) agrees held (sym q)

  off-table : (b : ℕ) → is_data_block X b ≡ true → b ≢ table_block i
  off-table b t = facts.off b i t ready.i_range

  cell-is : cell_at Y x.block ≡ c
  cell-is = written-here x.block c ((y.block, u) ∷ (table_block i, t) ∷ []) X
      (facts.above x.block block.area).1 (xy, (off-table x.block block.area, tt))

  leaf-is : cell_at Y y.block ≡ u
  leaf-is = written-here y.block u ((table_block i, t) ∷ []) (slice_set X x.block c)
      (let l = length-set X x.block c in let a = (facts.above y.block area).1 in omega (arith, l, a))
      (off-table y.block area, tt)

  at-i : cell_at Y (table_block i) ≡ t
  at-i = get_or-set_same (slice_set (slice_set X x.block c) y.block u) (table_block i) t no_cell
      (let f = facts.fits (table_block i) (facts.low i ready.i_range) in
      let l = length-set (slice_set X x.block c) y.block u in let m = length-set X x.block c in omega (arith, f, l, m))

  other : (b : ℕ) → b ≢ x.block → b ≢ y.block → b ≢ table_block i → cell_at Y b ≡ cell_at X b
  other b nx ny ni = written-apart ws X b (nx, (ny, (ni, tt)))

  beside : (b : ℕ) → b ≤ (super_at X).inodes / 4 → b ≢ table_block i → cell_at Y b ≡ cell_at X b
  beside b l ni = other b (λ q. let a = facts.above x.block block.area in omega (arith, a, l, q))
      (λ q. let a = facts.above y.block area in omega (arith, a, l, q)) ni

  super-stays : cell_at Y 0 ≡ cell_at X 0
  super-stays = beside 0 (omega arith) (λ q. omega (arith, q))

  has : HasRecord X i r t
  has = record {
    range = ready.i_range;
    here = table.here.here;
    others = λ j ne lt. table.here.others j ne lt ∙ ap (λ (z : Cell). record_of j z.payload) first;
  }

  records : (j : ℕ) → j ≢ i → inode Y j ≡ inode X j
  records j ne = record-other X Y i r t has ready.quarters super-stays at-i beside j ne

  directory : inode Y d ≡ dr
  directory = records d ready.apart ∙ ready.directory

  other-pointer : (m : ℕ) → m ≢ e / 16 - 8 → pointer_at u.payload m ≡ pointer_at before-leaf.payload m
  other-pointer m ne = elim (cases_lt m 64)
      [ inl lt ↦ more.others m ne lt | inr ge ↦ past-same u.payload before-leaf.payload m more.long more.was ge ]

  claimed : HoleUnderLeaf s X Y d i (e / 16 - 8) x y
  claimed = record {
    super = super-stays;
    records = records;
    held = held;
    cell = facts.claimed_cell s x block Y c it filled cell-is (ap (λ (q : Record). q.kind) directory ∙ ready.kind)
        (ap (λ (q : Record). q.generation) directory) (Under leaf (e / 16 - 8)) (path-leaf (e / 16) high facts.below);
    blocks = λ b t nx ny. other b nx ny (off-table b t);
    tag = ap (λ (z : Cell). tag_of z.tag) leaf-is ∙ ap tag_of more.tag ∙ ap (λ (z : Cell). tag_of z.tag) was;
    pointer = ap (λ (z : Cell). pointer_at z.payload (e / 16 - 8)) leaf-is ∙ more.here;
    pointers = λ m ne. ap (λ (z : Cell). pointer_at z.payload m) leaf-is ∙ other-pointer m ne
        ∙ ap (λ (z : Cell). pointer_at z.payload m) was;
  }

  each : (b : ℕ) (cell : Cell) → OneOf ws b cell → IsWritten X Y e x y b cell
  each b cell (inl one) = (one.1 ∙ sym (ap (cell_at Y) one.0 ∙ cell-is), inl one.0)
  each b cell (inr (inl one)) = (one.1 ∙ sym (ap (cell_at Y) one.0 ∙ leaf-is), inr (inl (high, one.0)))
  each b cell (inr (inr (inl one))) = (
    one.1 ∙ sym (ap (cell_at Y) one.0 ∙ at-i),
    inr (inr (facts.in_table i ready.i_range b cell t one.0 one.1 table.tag)),
  )
  each b cell (inr (inr (inr none))) = absurd none

  pub under-enters : EntersHole s X Y d i e r it x y ((x.block, c) ∷ (y.block, u) ∷ (table_block i, t) ∷ [])
  under-enters = record {
    super = super-stays;
    inode_is = record-here X Y i r t has ready.quarters super-stays at-i beside;
    entry = record {
      empty = hole;
      claimed = UnderLeaf high facts.below claimed;
      content = facts.content_is x Y c it filled cell-is short;
    };
    each = each;
    once = (
      (xy, (off-table x.block block.area, tt)),
      ((off-table y.block area, tt), (tt, tt)),
    );
  }
