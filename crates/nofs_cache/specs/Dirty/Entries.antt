-- The entries of dirty blocks.
use Rattle.std.specs.Prelude.{◌≡◌, ◌≢◌, ◌⊎◌, ℕ, ◌-◌, ◌<◌, List, [], ◌∷◌, ◌++◌, length, slice_index, slice_index_or}
use Rattle.std.specs.Prelude.{slice_set, Contains, IsPermutation, drop, map}
use Rattle.nofs_cache.specs.declared.dirty.cells.DirtyEntry.{DirtyEntry}
use Rattle.nofs_disk.specs.declared.tag.Cell.{Cell}
use Rattle.nofs_disk.specs.Disk.{no_cell}

-- what stands for an entry that isn't there
abbrev pub no_dirty_entry : DirtyEntry
no_dirty_entry = record { block = 0; cell = no_cell }

-- the entry at a place
abbrev pub dirty_entry_at : List DirtyEntry → ℕ → DirtyEntry
dirty_entry_at entries i = slice_index_or entries i no_dirty_entry

-- the slot of each entry's block names that entry
pub record AreSlotted (slots : List ℕ) (entries : List DirtyEntry) : Type 0 where
  pub low : (i : ℕ) → i < length entries → (dirty_entry_at entries i).block < length slots
  pub at : (i : ℕ) → i < length entries → slice_index slots (dirty_entry_at entries i).block ≡ i

-- the slots that were there are as they were
pub record KeepsSlots (old new : List ℕ) : Type 0 where
  pub kept : (b : ℕ) → b < length old → slice_index new b ≡ slice_index old b

-- no two entries are of one block
pub record HaveOwnBlocks (entries : List DirtyEntry) : Type 0 where
  pub own : (i j : ℕ) → i < length entries → j < length entries
      → (dirty_entry_at entries i).block ≡ (dirty_entry_at entries j).block → i ≡ j

-- each block is above those before it
pub record Rises (order : List ℕ) : Type 0 where
  pub above : (i j : ℕ) → i < j → j < length order → slice_index order i < slice_index order j

-- the blocks of the entries in rising order
pub record IsOrder (entries : List DirtyEntry) (order : List ℕ) : Type 0 where
  pub same : IsPermutation (map (λ e. e.block) entries) order
  pub rises : Rises order

-- the blocks of the entries are those of an order from a place on
pub record AreLeft (entries : List DirtyEntry) (order : List ℕ) (place : ℕ) : Type 0 where
  pub listed : (b : ℕ) → Contains (map (λ e. e.block) entries) b → Contains (drop place order) b
  pub dirty : (b : ℕ) → Contains (drop place order) b → Contains (map (λ e. e.block) entries) b

-- each of these entries is among all
pub record AreAmong (these all : List DirtyEntry) : Type 0 where
  pub each : (e : DirtyEntry) → Contains these e → Contains all e

-- the entry at a place is that of a block
pub record IsDirtyEntryOf (entries : List DirtyEntry) (b : ℕ) (i : ℕ) : Type 0 where
  pub low : i < length entries
  pub block : (dirty_entry_at entries i).block ≡ b

-- the last entry is that of a block
pub record IsLast (entries : List DirtyEntry) (b : ℕ) : Type 0 where
  pub some : 0 < length entries
  pub block : (dirty_entry_at entries (length entries - 1)).block ≡ b

-- a block has no entry
pub record IsClean (entries : List DirtyEntry) (block : ℕ) : Type 0 where
  pub none : (i : ℕ) → i < length entries → (dirty_entry_at entries i).block ≢ block

-- the entry of a block with this cell
abbrev pub dirty_entry : ℕ → Cell → DirtyEntry
dirty_entry block cell = record { block = block; cell = cell }

-- a block has an entry with this cell
pub record HasCell (entries : List DirtyEntry) (b : ℕ) (c : Cell) : Type 0 where
  pub at : ℕ
  pub is : IsDirtyEntryOf entries b at
  pub cell : (dirty_entry_at entries at).cell ≡ c

-- the cell of a block takes the place of the one that was kept
pub record ReplacesEntry (old new : List DirtyEntry) (b : ℕ) (c : Cell) : Type 0 where
  pub at : ℕ
  pub is : IsDirtyEntryOf old b at
  pub set : new ≡ slice_set old at (dirty_entry b c)

-- the cell of a clean block is added
pub record AddsEntry (old new : List DirtyEntry) (b : ℕ) (c : Cell) : Type 0 where
  pub clean : IsClean old b
  pub push : new ≡ old ++ dirty_entry b c ∷ []

-- a cell is put: the block has one entry, with this cell
abbrev pub PutsDirtyEntry : List DirtyEntry → List DirtyEntry → ℕ → Cell → Type 0
PutsDirtyEntry old new b c = ReplacesEntry old new b c ⊎ AddsEntry old new b c

-- the last entry is this one, of a block that is there
pub record HasLast (entries : List DirtyEntry) (blocks : ℕ) (e : DirtyEntry) : Type 0 where
  pub some : 0 < length entries
  pub is : e ≡ dirty_entry_at entries (length entries - 1)
  pub low : e.block < blocks
