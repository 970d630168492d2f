-- The disk after a new entry was written into a hole of the record: its block, and the records.
use Rattle.std.proofs.Common.{◌≡◌, ◌≢◌, ℕ, ◌/◌, ◌<◌, inl, inr, ◌∷◌, length, refl, sym, ap, ◌∙◌, arith}
use Rattle.std.specs.Prelude.{slice_set}
use Rattle.std.proofs.lemmas.List.{get_or-set_same, get_or-set_other, length-set}
use Rattle.nofs_disk.specs.Disk.{cell_at, no_cell}
use Rattle.nofs_disk.specs.declared.tag.Cell.{Cell}
use Rattle.nofs_dirent.specs.declared.entry.Entry.{Entry}
use Rattle.nofs_disk.specs.declared.tag.Pointer.{Pointer}
use Rattle.nofs_inode.specs.declared.inode.Record.{Record}
use Rattle.nofs_dirent.specs.Entries.{spelled_entry}
use Rattle.nofs_model.specs.Geometry.{Image}
use Rattle.nofs_ptrs.specs.Paths.{InRecord, path_of}
use Rattle.nofs_model.specs.Slots.{find, record_pointer}
use Rattle.nofs_model.specs.declared.image.path.PathAnswer.TheVariants as answer
use Rattle.nofs_ptrs.specs.PathLaws.{path-direct}
use Rattle.nofs_crashlaw.specs.Names.NewEntries.{HoleInRecord, Direct}
use Rattle.nofs_disk.specs.Order.{OneOf, image_after}
use Rattle.nofs_names.specs.Entries.Tables.{table_block}
use Rattle.nofs_names.specs.Entries.Writes.{AreTables, IsNewCell, table_writes, with_direct}
use Rattle.nofs_names.specs.declared.entries.writes.Tables.{Tables}
use Rattle.nofs_names.proofs.OnEntries.InPlace.{pointed-here, pointed-other}
use Rattle.nofs_names.proofs.OnEntries.HoleCells.{EntersHole, HoleFacts, IsReady, IsNewBlock, IsWritten, hole-facts}
use Rattle.nofs_names.proofs.OnEntries.TableWrites.{WritesTables, meta-stays, tables-written}

module _ (X : Image) (d i e : ℕ) (dr : Record) (ready : IsReady X d i e dr) (s : ℕ) (x y : Pointer)
    (block : IsNewBlock s X x) (c : Cell) (before after : Tables) (r : Record) (it : Entry) (small : e / 16 < 8)
    (filled : IsNewCell d dr.generation e it x.stamp c)
    (tables : AreTables before d (with_direct dr (e / 16) x) i r after)
    (first : before.directory ≡ cell_at X (table_block d)) (second : before.inode ≡ cell_at X (table_block i))
    (hole : find X d (path_of (e / 16)) ≡ answer.Hole)
    (short : length (spelled_entry it.inode it.generation it.name) ≡ 64) where
  abbrev Z : Image
  Z = slice_set X x.block c

  abbrev Y : Image
  Y = image_after ((x.block, c) ∷ table_writes d i after) X

  facts : HoleFacts X d e dr
  facts = hole-facts X d i e dr ready

  other : (b : ℕ) → b ≢ x.block → cell_at Z b ≡ cell_at X b
  other b ne = get_or-set_other X x.block b c no_cell ne

  written : WritesTables X Z Y d i (with_direct dr (e / 16) x) r (table_writes d i after)
  written = tables-written X d i e dr ready before after (with_direct dr (e / 16) x) r tables first second Z
      (length-set X x.block c) (λ b l. other b (λ q. let a = facts.above x.block block.area in omega (arith, a, l, q)))

  cell-is : cell_at Y x.block ≡ c
  cell-is = written.data_cells x.block block.area
      ∙ get_or-set_same X x.block c no_cell (facts.above x.block block.area).1

  claimed : HoleInRecord s X Y d i (e / 16) x
  claimed = record {
    super = written.super;
    records = written.records;
    cell = facts.claimed_cell s x block Y c it filled cell-is
        (ap (λ (q : Record). q.kind) written.directory ∙ ready.kind)
        (ap (λ (q : Record). q.generation) written.directory) (InRecord (e / 16)) (path-direct (e / 16) small);
    blocks = λ b t ne. written.data_cells b t ∙ other b ne;
    meta = meta-stays X Y d dr (with_direct dr (e / 16) x) ready.directory written.directory refl refl refl refl;
    pointer = ap (λ (q : Record). record_pointer q (e / 16)) written.directory
        ∙ pointed-here dr (e / 16) x small ready.eight;
    pointers = λ n ne. ap (λ (q : Record). record_pointer q n) written.directory ∙ pointed-other dr (e / 16) x n ne
        ∙ ap (λ (q : Record). record_pointer q n) (sym ready.directory);
  }

  each : (b : ℕ) (cell : Cell) → OneOf ((x.block, c) ∷ table_writes d i after) b cell → IsWritten X Y e x y b cell
  each b cell (inl one) = (one.1 ∙ sym (ap (cell_at Y) one.0 ∙ cell-is), inl one.0)
  each b cell (inr one) = let w = written.each b cell one in (w.0, inr (inr w.1))

  pub direct-enters : EntersHole s X Y d i e r it x y ((x.block, c) ∷ table_writes d i after)
  direct-enters = record {
    super = written.super;
    inode_is = written.inode_is;
    entry = record {
      empty = hole;
      claimed = Direct small claimed;
      content = facts.content_is x Y c it filled cell-is short;
    };
    each = each;
    once = (written.apart x.block block.area, written.once);
  }
