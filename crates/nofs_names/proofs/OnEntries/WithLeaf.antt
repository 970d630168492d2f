-- The disk after a new entry was written into a hole where there is no leaf: its block, the new leaf, and the records.
use Rattle.std.proofs.Common.{◌≡◌, ◌≢◌, ℕ, ◌-◌, ◌/◌, ◌≤◌, inl, inr, true, ◌∷◌, length, Some, refl, sym, ap, ◌∙◌}
use Rattle.std.proofs.Common.{arith}
use Rattle.std.specs.Prelude.{slice_set}
use Rattle.std.proofs.lemmas.Bool.{cases_lt}
use Rattle.std.proofs.lemmas.List.{get_or-set_same, get_or-set_other, length-set}
use Rattle.nofs_disk.specs.Disk.{cell_at, no_cell}
use Rattle.nofs_disk.specs.declared.tag.Cell.{Cell}
use Rattle.nofs_dirent.specs.declared.entry.Entry.{Entry}
use Rattle.nofs_disk.specs.declared.tag.Pointer.{Pointer}
use Rattle.nofs_inode.specs.declared.inode.Record.{Record}
use Rattle.nofs_disk.specs.Tag.{tag_of}
use Rattle.nofs_disk.specs.Pointer.{is_null}
use Rattle.nofs_ptrs.specs.Cells.{pointer_at}
use Rattle.nofs_dirent.specs.Entries.{spelled_entry}
use Rattle.nofs_model.specs.Geometry.{Image}
use Rattle.nofs_ptrs.specs.Paths.{leaf, Under, path_of}
use Rattle.nofs_model.specs.Slots.{find, record_pointer}
use Rattle.nofs_model.specs.declared.image.path.PathAnswer.TheVariants as answer
use Rattle.nofs_ptrs.specs.PathLaws.{path-leaf}
use Rattle.nofs_crashlaw.specs.Names.NewEntries.{HoleWithLeaf, WithLeaf}
use Rattle.nofs_disk.specs.Order.{OneOf, image_after}
use Rattle.nofs_names.specs.Entries.Tables.{table_block}
use Rattle.nofs_state.proofs.OnWrites.ZeroPointers.{past-null}
use Rattle.nofs_names.specs.Entries.Writes.{AreTables, IsNewCell, IsNewLeaf, table_writes, with_leaf}
use Rattle.nofs_names.specs.declared.entries.writes.Tables.{Tables}
use Rattle.nofs_names.proofs.OnEntries.InPlace.{rooted-other, new-leaf-tag}
use Rattle.nofs_names.proofs.OnEntries.HoleCells.{EntersHole, HoleFacts, IsReady, IsNewBlock, IsWritten, hole-facts}
use Rattle.nofs_names.proofs.OnEntries.TableWrites.{WritesTables, meta-stays, tables-written}

module _ (X : Image) (d i e : ℕ) (dr : Record) (ready : IsReady X d i e dr) (s : ℕ) (x y : Pointer)
    (block : IsNewBlock s X x) (leaf-block : IsNewBlock s X y) (xy : x.block ≢ y.block)
    (none : find X d leaf ≡ answer.Hole)
    (c u : Cell) (before after : Tables) (r : Record) (it : Entry) (high : 8 ≤ e / 16)
    (filled : IsNewCell d dr.generation e it x.stamp c) (new : IsNewLeaf d dr.generation y.stamp (e / 16 - 8) x u)
    (tables : AreTables before d (with_leaf dr y) i r after)
    (first : before.directory ≡ cell_at X (table_block d)) (second : before.inode ≡ cell_at X (table_block i))
    (hole : find X d (path_of (e / 16)) ≡ answer.Hole)
    (short : length (spelled_entry it.inode it.generation it.name) ≡ 64) where
  abbrev Z : Image
  Z = slice_set (slice_set X x.block c) y.block u

  abbrev Y : Image
  Y = image_after ((x.block, c) ∷ (y.block, u) ∷ table_writes d i after) X

  facts : HoleFacts X d e dr
  facts = hole-facts X d i e dr ready

  other : (b : ℕ) → b ≢ x.block → b ≢ y.block → cell_at Z b ≡ cell_at X b
  other b nx ny = get_or-set_other (slice_set X x.block c) y.block b u no_cell ny
      ∙ get_or-set_other X x.block b c no_cell nx

  written : WritesTables X Z Y d i (with_leaf dr y) r (table_writes d i after)
  written = tables-written X d i e dr ready before after (with_leaf dr y) r tables first second Z
      (length-set (slice_set X x.block c) y.block u ∙ length-set X x.block c)
      (λ b l. other b (λ q. let a = facts.above x.block block.area in omega (arith, a, l, q))
      (λ q. let a = facts.above y.block leaf-block.area in omega (arith, a, l, q)))

  cell-is : cell_at Y x.block ≡ c
  cell-is = written.data_cells x.block block.area
      ∙ get_or-set_other (slice_set X x.block c) y.block x.block u no_cell xy
      ∙ get_or-set_same X x.block c no_cell (facts.above x.block block.area).1

  leaf-is : cell_at Y y.block ≡ u
  leaf-is = written.data_cells y.block leaf-block.area ∙ get_or-set_same (slice_set X x.block c) y.block u no_cell
      (let l = length-set X x.block c in let a = (facts.above y.block leaf-block.area).1 in omega (arith, l, a))

  null-pointer : (m : ℕ) → m ≢ e / 16 - 8 → is_null (pointer_at u.payload m) ≡ true
  null-pointer m ne =
      elim (cases_lt m 64) [ inl lt ↦ new.others m ne lt | inr ge ↦ past-null u.payload m new.long ge ]

  claimed : HoleWithLeaf s X Y d i (e / 16 - 8) x y
  claimed = record {
    super = written.super;
    records = written.records;
    empty = none;
    cell = facts.claimed_cell s x block Y c it filled cell-is
        (ap (λ (q : Record). q.kind) written.directory ∙ ready.kind)
        (ap (λ (q : Record). q.generation) written.directory)
        (Under leaf (e / 16 - 8)) (path-leaf (e / 16) high facts.below);
    above = record {
      free = leaf-block.free;
      area = leaf-block.area;
      fresh = leaf-block.fresh;
      tag = ap (λ (z : Cell). tag_of z.tag) leaf-is ∙ new.tag ∙ ap Some
          (new-leaf-tag Y d y.stamp dr.generation (ap (λ (q : Record). q.generation) written.directory));
    };
    blocks = λ b t nx ny. written.data_cells b t ∙ other b nx ny;
    meta = meta-stays X Y d dr (with_leaf dr y) ready.directory written.directory refl refl refl refl;
    leaf_is = ap (λ (q : Record). record_pointer q 8) written.directory;
    others = λ m ne. ap (λ (q : Record). record_pointer q m) written.directory ∙ rooted-other dr y m ne
        ∙ ap (λ (q : Record). record_pointer q m) (sym ready.directory);
    pointer = ap (λ (z : Cell). pointer_at z.payload (e / 16 - 8)) leaf-is ∙ new.here;
    pointers = λ m ne. ap (λ (z : Cell). is_null (pointer_at z.payload m)) leaf-is ∙ null-pointer m ne;
  }

  each : (b : ℕ) (cell : Cell) → OneOf ((x.block, c) ∷ (y.block, u) ∷ table_writes d i after) b cell
      → IsWritten X Y e x y b cell
  each b cell (inl one) = (one.1 ∙ sym (ap (cell_at Y) one.0 ∙ cell-is), inl one.0)
  each b cell (inr (inl one)) = (one.1 ∙ sym (ap (cell_at Y) one.0 ∙ leaf-is), inr (inl (high, one.0)))
  each b cell (inr (inr one)) = let w = written.each b cell one in (w.0, inr (inr w.1))

  pub with-enters : EntersHole s X Y d i e r it x y ((x.block, c) ∷ (y.block, u) ∷ table_writes d i after)
  with-enters = record {
    super = written.super;
    inode_is = written.inode_is;
    each = each;
    entry = record {
      empty = hole;
      claimed = WithLeaf high facts.below claimed;
      content = facts.content_is x Y c it filled cell-is short;
    };
    once = (
      (xy, written.apart x.block block.area),
      (written.apart y.block leaf-block.area, written.once),
    );
  }
