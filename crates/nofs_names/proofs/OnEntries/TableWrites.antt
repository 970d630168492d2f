-- The disk after the records of a directory and of an inode were written, each cell of the table once.
use Rattle.std.proofs.Common.{◌≡◌, ◌≢◌, ℕ, ◌-◌, ◌/◌, ◌<◌, ◌≤◌, inl, inr, Bool, true, false, cond, eqb-true}
use Rattle.std.proofs.Common.{List, [], ◌∷◌, length, Some, refl, sym, ap, ◌∙◌, arith}
use Rattle.std.specs.Prelude.{slice_set}
use Rattle.std.proofs.lemmas.Bool.{eqb-false}
use Rattle.std.proofs.lemmas.List.{get_or-set_same, length-set}
use Rattle.nofs_disk.specs.Disk.{cell_at, no_cell}
use Rattle.nofs_disk.specs.Order.{IsApart, OneOf, WritesOnce, image_after}
use Rattle.nofs_disk.specs.declared.tag.Cell.{Cell}
use Rattle.nofs_inode.specs.declared.inode.Record.{Record}
use Rattle.nofs_disk.specs.Tag.{tag_of}
use Rattle.nofs_model.specs.Geometry.{Image, super_at, is_data_block, in_one_table_cell, inode}
use Rattle.nofs_crashlaw.specs.Numbers.Cells.{table_tag}
use Rattle.nofs_crashlaw.specs.Untouched.Frames.{SameMeta}
use Rattle.nofs_names.specs.Entries.Tables.{table_block}
use Rattle.nofs_names.specs.Entries.Writes.{AreTables, table_writes}
use Rattle.nofs_names.specs.declared.entries.writes.Tables.{Tables}
use Rattle.nofs_names.proofs.OnEntries.InPlace.{record-of-directory, record-of-inode, records-beside, tables-tagged}
use Rattle.nofs_names.proofs.OnEntries.InPlace.{written-apart, written-here}
use Rattle.nofs_names.proofs.OnEntries.HoleCells.{HoleFacts, IsInTable, IsReady, hole-facts}

-- what these writes come to, from an image Z with the table of X: both records are new, and nothing else
pub record WritesTables (X Z Y : Image) (d i : ℕ) (dr r : Record) (ws : List (ℕ × Cell)) : Type 0 where
  pub super : cell_at Y 0 ≡ cell_at X 0
  pub directory : inode Y d ≡ dr
  pub inode_is : inode Y i ≡ r
  pub records : (j : ℕ) → j ≢ d → j ≢ i → inode Y j ≡ inode X j
  pub data_cells : (b : ℕ) → is_data_block X b ≡ true → cell_at Y b ≡ cell_at Z b
  pub each : (b : ℕ) (cell : Cell) → OneOf ws b cell → (cell ≡ cell_at Y b) × IsInTable X b cell
  pub once : WritesOnce ws
  pub apart : (b : ℕ) → is_data_block X b ≡ true → IsApart ws b

-- no block of the table is the superblock
pub tables-above : (d i : ℕ) (t : Tables) → IsApart (table_writes d i t) 0
tables-above d i t = go (in_one_table_cell d i)
  where
    go : (u : Bool) → IsApart (cond u ((table_block i, t.inode) ∷ [])
        ((table_block d, t.directory) ∷ (table_block i, t.inode) ∷ [])) 0
    go true = ((λ e. omega (arith, e)), tt)
    go false = ((λ e. omega (arith, e)), ((λ e. omega (arith, e)), tt))

-- a record with other pointers has the meta of before
pub meta-stays : (X Y : Image) (d : ℕ) (dr new : Record) → inode X d ≡ dr → inode Y d ≡ new → new.kind ≡ dr.kind
    → new.generation ≡ dr.generation → new.size ≡ dr.size → new.links ≡ dr.links → SameMeta X Y d
meta-stays X Y d dr new was is kind generation size links = record {
  kind = ap (λ (q : Record). q.kind) is ∙ kind ∙ ap (λ (q : Record). q.kind) (sym was);
  generation = ap (λ (q : Record). q.generation) is ∙ generation ∙ ap (λ (q : Record). q.generation) (sym was);
  size = ap (λ (q : Record). q.size) is ∙ size ∙ ap (λ (q : Record). q.size) (sym was);
  links = ap (λ (q : Record). q.links) is ∙ links ∙ ap (λ (q : Record). q.links) (sym was);
}

module _ (X : Image) (d i e : ℕ) (old : Record) (ready : IsReady X d i e old) (before after : Tables) (dr r : Record)
    (tables : AreTables before d dr i r after)
    (first : before.directory ≡ cell_at X (table_block d)) (second : before.inode ≡ cell_at X (table_block i))
    (Z : Image) (len : length Z ≡ length X)
    (table : (b : ℕ) → b ≤ (super_at X).inodes / 4 → cell_at Z b ≡ cell_at X b) where
  facts : HoleFacts X d e old
  facts = hole-facts X d i e old ready

  -- the writes, by whether both records lie in one cell
  abbrev writes_by : Bool → List (ℕ × Cell)
  writes_by t = cond t ((table_block i, after.inode) ∷ [])
      ((table_block d, after.directory) ∷ (table_block i, after.inode) ∷ [])

  abbrev Y_by : Bool → Image
  Y_by t = image_after (writes_by t) Z

  one-block : in_one_table_cell d i ≡ true → (d - 1) / 4 ≡ (i - 1) / 4
  one-block e = eqb-true ((d - 1) / 4) ((i - 1) / 4) e

  two-blocks : in_one_table_cell d i ≡ false → table_block d ≢ table_block i
  two-blocks e q = eqb-false ((d - 1) / 4) ((i - 1) / 4) e (omega (arith, q))

  low-d : table_block d < length Z
  low-d = let f = facts.fits (table_block d) (facts.low d ready.d_range) in omega (arith, f, len)

  low-i : table_block i < length Z
  low-i = let f = facts.fits (table_block i) (facts.low i ready.i_range) in omega (arith, f, len)

  at-i : (t : Bool) → in_one_table_cell d i ≡ t → cell_at (Y_by t) (table_block i) ≡ after.inode
  at-i true e = get_or-set_same Z (table_block i) after.inode no_cell low-i
  at-i false e = get_or-set_same (slice_set Z (table_block d) after.directory) (table_block i) after.inode no_cell
      (let l = length-set Z (table_block d) after.directory in let f = low-i in omega (arith, l, f))

  at-d : (t : Bool) → in_one_table_cell d i ≡ t → cell_at (Y_by t) (table_block d) ≡ after.directory
  at-d true e = let s = one-block e in
      ap (cell_at (Y_by true)) (let q : table_block d ≡ table_block i = omega (arith, s) in q)
      ∙ at-i true e ∙ sym (tables.same s).0
  at-d false e = written-here (table_block d) after.directory ((table_block i, after.inode) ∷ []) Z low-d
      (two-blocks e, tt)

  other : (t : Bool) (b : ℕ) → b ≢ table_block d → b ≢ table_block i → cell_at (Y_by t) b ≡ cell_at Z b
  other true b nd ni = written-apart ((table_block i, after.inode) ∷ []) Z b (ni, tt)
  other false b nd ni =
      written-apart ((table_block d, after.directory) ∷ (table_block i, after.inode) ∷ []) Z b (nd, (ni, tt))

  module _ (t : Bool) (is : in_one_table_cell d i ≡ t) where
    beside : (b : ℕ) → b ≤ (super_at X).inodes / 4 → b ≢ table_block d → b ≢ table_block i
        → cell_at (Y_by t) b ≡ cell_at X b
    beside b l nd ni = other t b nd ni ∙ table b l

    super-stays : cell_at (Y_by t) 0 ≡ cell_at X 0
    super-stays = beside 0 (omega arith) (λ q. omega (arith, q)) (λ q. omega (arith, q))

    tagged : (tag_of after.directory.tag ≡ Some (table_tag (table_block d)))
        × (tag_of after.inode.tag ≡ Some (table_tag (table_block i)))
    tagged = tables-tagged X (Y_by t) d i dr r before after tables ready.apart ready.whole ready.room ready.quarters
        ready.d_range ready.i_range first second super-stays (at-d t is) (at-i t is) beside

    of-inode : (b : ℕ) (cell : Cell) → (b ≡ table_block i) × (cell ≡ after.inode)
        → (cell ≡ cell_at (Y_by t) b) × IsInTable X b cell
    of-inode b cell one = (
      one.1 ∙ sym (ap (cell_at (Y_by t)) one.0 ∙ at-i t is),
      facts.in_table i ready.i_range b cell after.inode one.0 one.1 tagged.1,
    )

    of-directory : (b : ℕ) (cell : Cell) → (b ≡ table_block d) × (cell ≡ after.directory)
        → (cell ≡ cell_at (Y_by t) b) × IsInTable X b cell
    of-directory b cell one = (
      one.1 ∙ sym (ap (cell_at (Y_by t)) one.0 ∙ at-d t is),
      facts.in_table d ready.d_range b cell after.directory one.0 one.1 tagged.0,
    )

    each : (b : ℕ) (cell : Cell) → OneOf (writes_by t) b cell → (cell ≡ cell_at (Y_by t) b) × IsInTable X b cell
    each b cell one = go t one (of-inode b cell) (of-directory b cell)
      where
        go : (u : Bool) → OneOf (writes_by u) b cell
            → ((b ≡ table_block i) × (cell ≡ after.inode) → (cell ≡ cell_at (Y_by t) b) × IsInTable X b cell)
            → ((b ≡ table_block d) × (cell ≡ after.directory) → (cell ≡ cell_at (Y_by t) b) × IsInTable X b cell)
            → (cell ≡ cell_at (Y_by t) b) × IsInTable X b cell
        go true (inl one) to-i to-d = to-i one
        go true (inr none) to-i to-d = absurd none
        go false (inl one) to-i to-d = to-d one
        go false (inr (inl one)) to-i to-d = to-i one
        go false (inr (inr none)) to-i to-d = absurd none

    written : WritesTables X Z (Y_by t) d i dr r (writes_by t)
    written = record {
      super = super-stays;
      directory = record-of-directory X (Y_by t) d i dr r before after tables ready.apart ready.whole ready.room
          ready.quarters ready.d_range ready.i_range first second super-stays (at-d t is) (at-i t is) beside;
      inode_is = record-of-inode X (Y_by t) d i dr r before after tables ready.apart ready.whole ready.room
          ready.quarters ready.d_range ready.i_range first second super-stays (at-d t is) (at-i t is) beside;
      records = records-beside X (Y_by t) d i dr r before after tables ready.apart ready.whole ready.room
          ready.quarters ready.d_range ready.i_range first second super-stays (at-d t is) (at-i t is) beside;
      data_cells = λ b area. other t b (facts.off b d area ready.d_range) (facts.off b i area ready.i_range);
      each = each;
      once = once t is;
      apart = λ b area. apart t b (facts.off b d area ready.d_range) (facts.off b i area ready.i_range);
    }
      where
        once : (u : Bool) → in_one_table_cell d i ≡ u → WritesOnce (writes_by u)
        once true e = (tt, tt)
        once false e = ((two-blocks e, tt), (tt, tt))

        apart : (u : Bool) (b : ℕ) → b ≢ table_block d → b ≢ table_block i → IsApart (writes_by u) b
        apart true b nd ni = (ni, tt)
        apart false b nd ni = (nd, (ni, tt))

  pub tables-written : WritesTables X Z (image_after (table_writes d i after) Z) d i dr r (table_writes d i after)
  tables-written = written (in_one_table_cell d i) refl
