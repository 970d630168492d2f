-- What a new entry writes: its cell with what is claimed for it, and the record of the inode that it names.
use Rattle.std.specs.Prelude.{◌≡◌, ◌≢◌, ℕ, ◌+◌, ◌-◌, ◌*◌, ◌/◌, ◌%◌, ◌^◌, ◌<◌, ◌≤◌, true, List, [], ◌∷◌, length, Some}
use Rattle.std.specs.Prelude.{IsTrue, Result, IfOk, OnOk, OnErr, slice_set, if◌then◌else◌}
use Rattle.nofs_disk.specs.Disk.{DiskState, StaysButFaults, Rose, cell_at}
use Rattle.nofs_disk.specs.Number.{put_bytes, zeros}
use Rattle.nofs_disk.specs.declared.Failed.{Failed}
use Rattle.nofs_disk.specs.declared.tag.Kind.TheVariants as kind
use Rattle.nofs_dirent.specs.Entries.{HasEntrySpelling, spelled_entry, entry_limit}
use Rattle.nofs_inode.specs.InodeRecords.{HasRecordSpelling}
use Rattle.nofs_disk.specs.declared.tag.Cell.{Cell}
use Rattle.nofs_dirent.specs.declared.entry.Entry.{Entry}
use Rattle.nofs_disk.specs.declared.tag.Pointer.{Pointer}
use Rattle.nofs_inode.specs.declared.inode.Record.{Record}
use Rattle.nofs_disk.specs.Pointer.{is_null}
use Rattle.nofs_ptrs.specs.Cells.{pointer_at}
use Rattle.nofs_disk.specs.Tag.{tag_of}
use Rattle.nofs_model.specs.Geometry.{in_one_table_cell}
use Rattle.nofs_history.specs.Claims.{no_claims}
use Rattle.nofs_agree.specs.Reads.{IsLast, KnowsDirectory}
use Rattle.nofs_agree.specs.declared.reads.LastRead.{LastRead}
use Rattle.nofs_state.specs.Books.Maps.{IsSafe, claimed_books, claimed_pointer}
use Rattle.nofs_state.specs.declared.books.maps.Books.{Books}
use Rattle.nofs_state.specs.Writes.Cells.{Stores}
use Rattle.nofs_names.specs.Entries.Places.{AreFree, FitsSlot, slot_blocks}
use Rattle.nofs_state.specs.declared.writes.ends.Ended.{Ended}
use Rattle.nofs_names.specs.Entries.Tables.{IsTable, table_block}
use Rattle.nofs_names.specs.declared.entries.places.EntryBlocks.{EntryBlocks}
use Rattle.nofs_names.specs.declared.entries.places.EntrySlot.{EntrySlot}
use Rattle.nofs_names.specs.declared.entries.writes.EntryPlace.{EntryPlace}
use Rattle.nofs_names.specs.declared.entries.writes.NewEntry.{NewEntry}
use Rattle.nofs_names.specs.declared.entries.writes.Tables.{Tables}
use Rattle.nofs_names.specs.declared.entries.places.EntrySlot.TheVariants as entry

-- the cells of the table with the records of a directory and of an inode
pub record ReadsTables (old new : DiskState) (d i : ℕ) (last : LastRead) (result : Result Tables Failed) : Type 0 where
  pub stays : StaysButFaults old new
  pub no_fault : OnOk result (new.faults ≡ old.faults)
  pub directory : IfOk result (λ t. IsTrue old.tells → t.directory ≡ cell_at old.now (table_block d))
  pub inode : IfOk result (λ t. IsTrue old.tells → t.inode ≡ cell_at old.now (table_block i))
  pub kept : OnOk result (IsLast new last)
  pub cause : OnErr result (Rose old.faults new.faults)

-- the record with another direct pointer, and with another leaf
abbrev pub with_direct : Record → ℕ → Pointer → Record
with_direct r k x = record r { direct = slice_set r.direct k x }

abbrev pub with_leaf : Record → Pointer → Record
with_leaf r y = record r { leaf = y }

-- what a new entry asks, over any disk
pub record MayEnter (d : DiskState) (k : Books) (i : ℕ) (r : Record) (n : ℕ) (slot : EntrySlot) (b : EntryBlocks)
    (named : Entry) (new : Record) : Type 0
  where
    pub directory : KnowsDirectory d k.at i r.generation r
    pub range : n < entry_limit
    pub fits : FitsSlot k.at (n / 16) slot
    pub free : AreFree k.free_blocks (slot_blocks slot) b
    pub stamps : k.serial + slot_blocks slot ≤ 2 ^ 40
    pub one : 1 ≤ named.inode
    pub most : named.inode ≤ k.at.inodes
    pub spelling : HasEntrySpelling named
    pub new_spelling : HasRecordSpelling new

-- a new entry that may be written, with room for so many writes
pub record IsEntering (calls : ℕ) (d : DiskState) (k : Books) (e : NewEntry) : Type 0 where
  pub safe : IsSafe d k
  pub spare : calls ≤ d.spare
  pub may : MayEnter d k e.directory e.it.now e.place.now.entry e.place.now.slot e.place.now.blocks
      e.named.now e.record.now

-- the payload of a cell with the entry in its place
abbrev pub entered : List ℕ → ℕ → Entry → List ℕ
entered payload e it = put_bytes (64 * (e % 16)) (spelled_entry it.inode it.generation it.name) payload

-- the cells of the table with a record of a directory and one of an inode. Where both records lie in one cell, both are
-- that cell
pub record AreTables (before : Tables) (d : ℕ) (dr : Record) (i : ℕ) (r : Record) (after : Tables) : Type 0 where
  pub same : (d - 1) / 4 ≡ (i - 1) / 4 → (after.directory ≡ after.inode) ×
      ((middle : Cell) × IsTable before.directory d dr middle × IsTable middle i r after.inode)
  pub apart : (d - 1) / 4 ≢ (i - 1) / 4 → IsTable before.directory d dr after.directory
      × IsTable before.inode i r after.inode

-- what is written of them: each block once, also where both records lie in one
abbrev pub table_writes : ℕ → ℕ → Tables → List (ℕ × Cell)
table_writes d i t = if in_one_table_cell d i then (table_block i, t.inode) ∷ []
    else (table_block d, t.directory) ∷ (table_block i, t.inode) ∷ []

-- a cell that the directory did not have
pub record IsNewCell (d g n : ℕ) (it : Entry) (stamp : ℕ) (c : Cell) : Type 0 where
  pub payload : c.payload ≡ entered (zeros 1024) n it
  pub tag : tag_of c.tag
      ≡ Some (record { kind = kind.Directory; inode = d; generation = g; slot = n / 16; stamp = stamp })

-- the leaf with one pointer more
pub record IsMoreLeaf (before : Cell) (n : ℕ) (x : Pointer) (c : Cell) : Type 0 where
  pub tag : c.tag ≡ before.tag
  pub here : pointer_at c.payload n ≡ x
  pub others : (j : ℕ) → j ≢ n → j < 64 → pointer_at c.payload j ≡ pointer_at before.payload j
  pub was : length before.payload ≡ 1024
  pub long : length c.payload ≡ 1024

-- a leaf with one pointer alone
pub record IsNewLeaf (d g stamp n : ℕ) (x : Pointer) (c : Cell) : Type 0 where
  pub tag : tag_of c.tag ≡ Some (record { kind = kind.Leaf; inode = d; generation = g; slot = 2 ^ 32; stamp = stamp })
  pub here : pointer_at c.payload n ≡ x
  pub others : (j : ℕ) → j ≢ n → j < 64 → is_null (pointer_at c.payload j) ≡ true
  pub long : length c.payload ≡ 1024

-- into a slot that holds
pub record EntersHeld (old : DiskState) (k : Books) (new : DiskState) (l : Books) (p : EntryPlace) (x : Pointer)
    (it : Entry) (r : Record) (t : Tables)
    (ended : Ended) : Type 0 where
  pub cell : Cell
  pub table : Cell
  pub whole : length p.cell.payload ≡ 1024
  pub payload : cell.payload ≡ entered p.cell.payload p.entry it
  pub tag : cell.tag ≡ p.cell.tag
  pub written : IsTable t.inode it.inode r table
  pub claims : ended.claims ≡ no_claims
  pub stores : Stores old k new l ((x.block, cell) ∷ (table_block it.inode, table) ∷ []) ended.result

-- into a hole of the record
pub record EntersDirect (old : DiskState) (k : Books) (new : DiskState) (l : Books) (d : ℕ) (dr : Record)
    (p : EntryPlace) (it : Entry) (r : Record)
    (t : Tables) (ended : Ended) : Type 0 where
  pub cell : Cell
  pub after : Tables
  pub filled : IsNewCell d dr.generation p.entry it (claimed_pointer k p.blocks.cell).stamp cell
  pub tables : AreTables t d (with_direct dr (p.entry / 16) (claimed_pointer k p.blocks.cell)) it.inode r after
  pub claims : ended.claims ≡ record no_claims { cell = claimed_pointer k p.blocks.cell }
  pub stores : Stores old (claimed_books k p.blocks.cell) new l
      ((p.blocks.cell, cell) ∷ table_writes d it.inode after) ended.result

-- into a hole under a leaf that holds
pub record EntersUnderLeaf (old : DiskState) (k : Books) (new : DiskState) (l : Books) (d : ℕ) (dr : Record)
    (p : EntryPlace) (y : Pointer) (it : Entry)
    (r : Record) (t : Tables) (ended : Ended) : Type 0 where
  pub cell : Cell
  pub leaf : Cell
  pub table : Cell
  pub filled : IsNewCell d dr.generation p.entry it (claimed_pointer k p.blocks.cell).stamp cell
  pub above : IsMoreLeaf p.cell (p.entry / 16 - 8) (claimed_pointer k p.blocks.cell) leaf
  pub written : IsTable t.inode it.inode r table
  pub claims : ended.claims ≡ record no_claims { cell = claimed_pointer k p.blocks.cell }
  pub stores : Stores old (claimed_books k p.blocks.cell) new l
      ((p.blocks.cell, cell) ∷ (y.block, leaf) ∷ (table_block it.inode, table) ∷ []) ended.result

-- into a hole where there is no leaf
pub record EntersWithLeaf (old : DiskState) (k : Books) (new : DiskState) (l : Books) (d : ℕ) (dr : Record)
    (p : EntryPlace) (it : Entry) (r : Record)
    (t : Tables) (ended : Ended) : Type 0 where
  pub cell : Cell
  pub leaf : Cell
  pub after : Tables
  pub filled : IsNewCell d dr.generation p.entry it (claimed_pointer k p.blocks.cell).stamp cell
  pub above : IsNewLeaf d dr.generation
      (claimed_pointer (claimed_books k p.blocks.cell) p.blocks.leaf).stamp (p.entry / 16 - 8)
      (claimed_pointer k p.blocks.cell) leaf
  pub tables : AreTables t d
      (with_leaf dr (claimed_pointer (claimed_books k p.blocks.cell) p.blocks.leaf)) it.inode r after
  pub claims : ended.claims ≡ record no_claims {
    cell = claimed_pointer k p.blocks.cell;
    leaf = claimed_pointer (claimed_books k p.blocks.cell)
        p.blocks.leaf;
  }
  pub stores : Stores old (claimed_books (claimed_books k p.blocks.cell) p.blocks.leaf) new l
      ((p.blocks.cell, cell) ∷ (p.blocks.leaf, leaf) ∷ table_writes d it.inode after) ended.result

-- a new entry is written, by what stands in its slot
abbrev pub Enters : DiskState → Books → DiskState → Books → ℕ → Record → EntryPlace → Entry → Record → Tables
    → EntrySlot → Ended → Type 0
Enters old k new l d dr p it r t (entry.Held x) ended = EntersHeld old k new l p x it r t ended
Enters old k new l d dr p it r t entry.Direct ended = EntersDirect old k new l d dr p it r t ended
Enters old k new l d dr p it r t (entry.UnderLeaf y) ended = EntersUnderLeaf old k new l d dr p y it r t ended
Enters old k new l d dr p it r t entry.WithLeaf ended = EntersWithLeaf old k new l d dr p it r t ended
