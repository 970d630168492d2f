-- What is written of a new entry in a hole, and what of the disk stays.
use Rattle.std.proofs.Common.{◌≡◌, ◌≢◌, ℕ, ◌+◌, ◌/◌, ◌%◌, ◌<◌, ◌≤◌, ◌⊎◌, true, leb, leb-true, length}
use Rattle.std.proofs.Common.{List, Some, sym, ap, ◌∙◌, arith}
use Rattle.nofs_dirent.specs.Entries.{entry_limit, spelled_entry}
use Rattle.nofs_disk.specs.Disk.{cell_at}
use Rattle.nofs_inode.specs.declared.inode.FileKind.TheVariants.{Directory as Folder}
use Rattle.nofs_disk.specs.declared.tag.Cell.{Cell}
use Rattle.nofs_dirent.specs.declared.entry.Entry.{Entry}
use Rattle.nofs_disk.specs.declared.tag.Pointer.{Pointer}
use Rattle.nofs_inode.specs.declared.inode.Record.{Record}
use Rattle.nofs_disk.specs.Tag.{tag_of}
use Rattle.nofs_model.specs.Geometry.{Image, super_at, is_data_block, is_inode, inode}
use Rattle.nofs_ptrs.specs.Paths.{Path, path_of}
use Rattle.nofs_model.specs.Slots.{tag_for}
use Rattle.nofs_model.specs.Owners.{IsFree}
use Rattle.nofs_model.specs.declared.image.value.Value.TheVariants.{Bytes, Hole}
use Rattle.nofs_model.proofs.OnSlots.Find.{and-both}
use Rattle.nofs_history.specs.Machine.{with_entry}
use Rattle.nofs_crashlaw.specs.Files.Growth.{ClaimedCell}
use Rattle.nofs_crashlaw.specs.Names.NewEntries.{EntryInHole}
use Rattle.nofs_crashlaw.specs.Numbers.Cells.{table_tag}
use Rattle.nofs_disk.specs.Order.{OneOf, WritesOnce}
use Rattle.nofs_names.specs.Entries.Tables.{table_block}
use Rattle.nofs_names.specs.Entries.Writes.{IsNewCell}
use Rattle.nofs_names.proofs.OnSteps.OneCell.{data-place}
use Rattle.nofs_names.proofs.OnEntries.InPlace.{content-new, new-cell-tag}

-- what holds of the disk before: its numbers, the directory and the inode
pub record IsReady (X : Image) (d i e : ℕ) (dr : Record) : Type 0 where
  pub whole : (super_at X).blocks ≤ length X
  pub room : 2 + (super_at X).inodes / 4 ≤ (super_at X).blocks
  pub quarters : (super_at X).inodes % 4 ≡ 0
  pub d_range : is_inode X d ≡ true
  pub i_range : is_inode X i ≡ true
  pub apart : d ≢ i
  pub directory : inode X d ≡ dr
  pub kind : dr.kind ≡ Some Folder
  pub eight : length dr.direct ≡ 8
  pub range : e < entry_limit

-- a block that is claimed
pub record IsNewBlock (s : ℕ) (X : Image) (x : Pointer) : Type 0 where
  pub free : IsFree X x.block
  pub area : is_data_block X x.block ≡ true
  pub fresh : s ≤ x.stamp

-- a cell of the table, which lies behind the superblock
abbrev pub IsInTable : Image → ℕ → Cell → Type 0
IsInTable X b cell = (0 < b) × (b ≤ (super_at X).inodes / 4) × (tag_of cell.tag ≡ Some (table_tag b))

-- which blocks are written, and that each cell is the last one of its block
abbrev pub IsWritten : Image → Image → ℕ → Pointer → Pointer → ℕ → Cell → Type 0
IsWritten X Y e x y b cell = (cell ≡ cell_at Y b)
    × ((b ≡ x.block) ⊎ (((8 ≤ e / 16) × (b ≡ y.block)) ⊎ IsInTable X b cell))

-- what the writes of a new entry in a hole come to, with its block x, and y the leaf above it where it lies under one
pub record EntersHole (s : ℕ) (X Y : Image) (d i e : ℕ) (r : Record) (it : Entry) (x y : Pointer)
    (ws : List (ℕ × Cell)) : Type 0 where
  pub super : cell_at Y 0 ≡ cell_at X 0
  pub inode_is : inode Y i ≡ r
  pub entry : EntryInHole s X Y d e i (spelled_entry it.inode it.generation it.name) x y
  pub each : (b : ℕ) (cell : Cell) → OneOf ws b cell → IsWritten X Y e x y b cell
  pub once : WritesOnce ws

-- where the blocks lie, and what the block of the entry comes to
pub record HoleFacts (X : Image) (d e : ℕ) (dr : Record) : Type 0 where
  pub low : (j : ℕ) → is_inode X j ≡ true → table_block j ≤ (super_at X).inodes / 4
  pub fits : (b : ℕ) → b ≤ (super_at X).inodes / 4 → b < length X
  pub above : (b : ℕ) → is_data_block X b ≡ true → ((super_at X).inodes / 4 < b) × (b < length X)
  pub off : (b j : ℕ) → is_data_block X b ≡ true → is_inode X j ≡ true → b ≢ table_block j
  pub in_table : (j : ℕ) → is_inode X j ≡ true → (b : ℕ) (cell c : Cell) → b ≡ table_block j
      → cell ≡ c → tag_of c.tag ≡ Some (table_tag (table_block j)) → IsInTable X b cell
  pub below : e / 16 < 72
  -- the entry's block, once it is written: the directory is of the same kind and generation
  pub claimed_cell : (s : ℕ) (x : Pointer) → IsNewBlock s X x
      → (Y : Image) (c : Cell) (it : Entry) → IsNewCell d dr.generation e it x.stamp c
      → cell_at Y x.block ≡ c → (inode Y d).kind ≡ Some Folder
      → (inode Y d).generation ≡ dr.generation → (path : Path) → path_of (e / 16) ≡ path
      → ClaimedCell s X Y d path x
  -- and its content
  pub content_is : (x : Pointer) (Y : Image) (c : Cell) (it : Entry) → IsNewCell d dr.generation e it x.stamp c
      → cell_at Y x.block ≡ c
      → length (spelled_entry it.inode it.generation it.name) ≡ 64
      → Bytes (cell_at Y x.block).payload ≡ with_entry Hole e (spelled_entry it.inode it.generation it.name)

module _ (X : Image) (d i e : ℕ) (dr : Record) (ready : IsReady X d i e dr) where
  inside : (j : ℕ) → is_inode X j ≡ true → (1 ≤ j) × (j ≤ (super_at X).inodes)
  inside j t = let b = and-both (leb 1 j) (leb j (super_at X).inodes) t in
      (leb-true 1 j b.0, leb-true j (super_at X).inodes b.1)

  low : (j : ℕ) → is_inode X j ≡ true → table_block j ≤ (super_at X).inodes / 4
  low j t = let a = inside j t in let q = ready.quarters in omega (arith, a, q)

  fits : (b : ℕ) → b ≤ (super_at X).inodes / 4 → b < length X
  fits b l = let r = ready.room in let w = ready.whole in omega (arith, l, r, w)

  above : (b : ℕ) → is_data_block X b ≡ true → ((super_at X).inodes / 4 < b) × (b < length X)
  above b t =
      let a = (data-place X b t).0 in
      let l = (data-place X b t).1 in
      let w = ready.whole in
      (omega (arith, a), omega (arith, l, w))

  off : (b j : ℕ) → is_data_block X b ≡ true → is_inode X j ≡ true → b ≢ table_block j
  off b j t u q = let a = above b t in let l = low j u in omega (arith, a, l, q)

  in-table : (j : ℕ) → is_inode X j ≡ true → (b : ℕ) (cell c : Cell) → b ≡ table_block j
      → cell ≡ c → tag_of c.tag ≡ Some (table_tag (table_block j))
      → IsInTable X b cell
  in-table j t b cell c eb ec tag = (
    omega (arith, eb),
    (let l = low j t in omega (arith, l, eb)),
    ap (λ (z : Cell). tag_of z.tag) ec ∙ tag ∙ ap
        (λ (n : ℕ). Some (table_tag n)) (sym eb),
  )

  below : e / 16 < 72
  below = let g = ready.range in omega (arith, g)

  claimed-cell : (s : ℕ) (x : Pointer) → IsNewBlock s X x
      → (Y : Image) (c : Cell) (it : Entry) → IsNewCell d dr.generation e it x.stamp c
      → cell_at Y x.block ≡ c → (inode Y d).kind ≡ Some Folder
      → (inode Y d).generation ≡ dr.generation → (path : Path) → path_of (e / 16) ≡ path
      → ClaimedCell s X Y d path x
  claimed-cell s x block Y c it filled here kind generation path is = record {
    free = block.free;
    area = block.area;
    fresh = block.fresh;
    tag = ap (λ (z : Cell). tag_of z.tag) here ∙ filled.tag
        ∙ ap Some (new-cell-tag Y d (e / 16) x.stamp dr.generation kind generation below
        ∙ (λ j. tag_for Y d (is j) x.stamp));
  }

  pub hole-facts : HoleFacts X d e dr
  hole-facts = record {
    low = low;
    fits = fits;
    above = above;
    off = off;
    content_is = λ x Y c it filled here short. ap (λ (z : Cell). Bytes z.payload) here ∙ ap Bytes filled.payload
        ∙ content-new e it short;
    in_table = in-table;
    below = below;
    claimed_cell = claimed-cell;
  }
