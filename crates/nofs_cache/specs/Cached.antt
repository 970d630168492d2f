-- What a cached disk holds, and what a crash may leave of it.
use Rattle.std.specs.Prelude.{◌≡◌, ◌⊎◌, ℕ, ◌+◌, ◌-◌, ◌*◌, ◌<◌, ◌≤◌, ◌==◌, if◌then◌else◌, Bool, true, false, List, []}
use Rattle.std.specs.Prelude.{◌∷◌, length, map, slice_index, take}
use Rattle.std.specs.Prelude.{slice_index_or, Contains, Option, None, Some, Result, Ok, Err, IsPermutation, OnOk, OnErr}
use Rattle.nofs_disk.specs.declared.Failed.{Failed}
use Rattle.nofs_disk.specs.declared.tag.Cell.{Cell}
use Rattle.nofs_disk.specs.Disk.{DiskState, IsSameDisk, IsSettled, KeepsPast, Picks, Rose, Writes, cell_at}
use Rattle.nofs_disk.specs.Cells.{has_cell}
use Rattle.nofs_disk.specs.Moments.{AtEach}
use Rattle.nofs_disk.specs.Held.{Held, IsWithin, written}
use Rattle.nofs_cache.specs.declared.dirty.past.CacheCall.{CacheCall}
use Rattle.nofs_cache.specs.declared.dirty.past.CacheCall.TheVariants.{Write, Flush}
use Rattle.nofs_cache.specs.declared.dirty.cells.DirtyEntry.{DirtyEntry}
use Rattle.nofs_cache.specs.declared.dirty.cells.DirtyBlocks.{DirtyBlocks}
use Rattle.nofs_cache.specs.Dirty.Blocks.{block_count, entries_of, order_of, room_of}
use Rattle.nofs_cache.specs.Dirty.Entries.{IsClean, IsDirtyEntryOf, dirty_entry_at}

-- this cell, where it may be there
abbrev pub only : Bool → Cell → List Cell
only true cell = cell ∷ []
only false cell = []

-- a flush ended: where it settles, each block may hold its present cell alone
abbrev pub held_after_flush : Bool → Held → Held
held_after_flush true held =
    record { now = held.now; may = λ b. only (has_cell (held.may b) (cell_at held.now b)) (cell_at held.now b) }
held_after_flush false held = held

-- what the disk holds after these calls
abbrev pub held : Held → List CacheCall → Held
held first [] = first
held first (Write block cell at ∷ past) = written (held first past) block cell.value
held first (Flush settles began ended_at ∷ past) = held_after_flush settles (held first past)

-- the moment of the disk below at which a call began
abbrev pub began : CacheCall → ℕ
began (Write block cell at) = at
began (Flush settles from to) = from

-- and the one at which it ended
abbrev pub ended_at : CacheCall → ℕ
ended_at (Write block cell at) = at
ended_at (Flush settles from to) = to

-- the moment of the disk below at which the last call ended
abbrev pub last_end : ℕ → List CacheCall → ℕ
last_end first [] = first
last_end first (call ∷ past) = ended_at call

-- what the disk below may have left at a moment of its own between two
pub record LeftWithin (leaves : ℕ → List Cell → Type 0) (from to : ℕ) (image : List Cell) : Type 0 where
  pub at : ℕ
  pub low : from ≤ at
  pub high : at ≤ to
  pub left : leaves at image

-- what a crash at a moment may leave
abbrev pub Left : (ℕ → List Cell → Type 0) → ℕ → List CacheCall → ℕ → ℕ → List Cell → Type 0
Left left first [] to m image = (m ≡ 0) × LeftWithin left first to image
Left left first (call ∷ past) to m image =
    ((m ≡ 2 * length (call ∷ past)) × LeftWithin left (ended_at call) to image)
    ⊎ (((m ≡ 2 * length past + 1) × LeftWithin left (began call) (ended_at call) image)
    ⊎ Left left first past (began call) m image)

-- what a read gave at a moment at which a flush ended
abbrev pub was : (ℕ → List Cell) → ℕ → List CacheCall → ℕ → List Cell
was below first [] m = below first
was below first (call ∷ past) m = if m == 2 * length (call ∷ past) then below (ended_at call)
    else was below first past m

-- what contracts see of a cached disk
abbrev pub cache_state : DiskState → DiskState → List CacheCall → List DirtyEntry → ℕ → DiskState
cache_state under first past entries spare = record {
  blocks = under.blocks;
  moment = 2 * length past;
  spare = spare;
  faults = under.faults;
  tells = under.tells;
  now = (held (record { now = first.now; may = first.may }) past).now;
  may = (held (record { now = first.now; may = first.may }) past).may;
  was = was under.was first.moment past;
  left = Left under.left first.moment past under.moment;
  dirty = map (λ e. e.block) entries;
  holds_back = true;
}

-- what a crash may leave of the disk below at each of its moments from one on, it may leave of the disk over it at this
-- moment
pub record LeavesAll (from : ℕ) (below over : DiskState) (m : ℕ) : Type 0 where
  pub each : (at : ℕ) (image : List Cell) → from ≤ at → at ≤ below.moment → below.left at image → over.left m image

-- each cell that the disk below may hold, and each that is kept, is among these
pub record Covers (may : ℕ → List Cell) (blocks : ℕ) (under : ℕ → List Cell) (entries : List DirtyEntry) : Type 0 where
  pub below : (b : ℕ) (c : Cell) → b < blocks → Contains (under b) c → Contains (may b) c
  pub kept : (i : ℕ) → i < length entries
      → Contains (may (dirty_entry_at entries i).block) (dirty_entry_at entries i).cell

-- the cells below with those that are kept in their place are these
pub record Agrees (now below : List Cell) (entries : List DirtyEntry) : Type 0 where
  pub len : length below ≡ length now
  pub kept : (i : ℕ) → i < length entries → (dirty_entry_at entries i).block < length now
      → (dirty_entry_at entries i).cell ≡ cell_at now (dirty_entry_at entries i).block
  pub clean : (b : ℕ) → IsClean entries b → cell_at below b ≡ cell_at now b

-- what holds of a cached disk's cells
pub record IsCached (held : Held) (from : ℕ) (under : DiskState) (entries : List DirtyEntry) : Type 0 where
  pub covers : Covers held.may under.blocks under.may entries
  pub picks : AtEach (λ m image. Picks held.may under.blocks image) from under
  pub agrees : Agrees held.now under.now entries
  pub within : IsWithin held.may under.blocks

-- each call began and ended up to this moment of the disk below
pub record IsMarked (first : ℕ) (past : List CacheCall) (moment : ℕ) : Type 0 where
  pub start : first ≤ moment
  pub begins : (k : ℕ) → k < length past → began (slice_index_or past k (Flush false 0 0)) ≤ moment
  pub ends : (k : ℕ) → k < length past → ended_at (slice_index_or past k (Flush false 0 0)) ≤ moment

-- dirty cells were written to the disk below
pub record WrittenBack (old new : DiskState) (before after : List DirtyEntry) : Type 0 where
  pub disk : IsSameDisk old new
  pub past : KeepsPast old new
  pub later : old.moment ≤ new.moment
  pub covers : (may : ℕ → List Cell) (n : ℕ) → n ≡ old.blocks → Covers may n old.may before → Covers may n new.may after
  pub picks : (may : ℕ → List Cell) (n from : ℕ) → n ≡ old.blocks → Covers may n old.may before
      → AtEach (λ m image. Picks may n image) from old
      → AtEach (λ m image. Picks may n image) from new
  pub agrees : (now : List Cell) → Agrees now old.now before → Agrees now new.now after
  pub fewer : (b : ℕ) → Contains (map (λ e. e.block) after) b → Contains (map (λ e. e.block) before) b

-- the dirty cell of a block was written to the disk below
pub record WritesDirty (old new : DiskState) (entries : List DirtyEntry) (b : ℕ)
    (result : Result (Unit {0}) Failed) : Type 0 where
  pub at : ℕ
  pub is : IsDirtyEntryOf entries b at
  pub writes : Writes old new (dirty_entry_at entries at).block (dirty_entry_at entries at).cell result

-- the disk below has the cells of the first places of an order
pub record AreBelow (below : List Cell) (entries : List DirtyEntry) (order : List ℕ) (places : ℕ) : Type 0 where
  pub each : (i k : ℕ) → i < length entries → k < places → slice_index order k ≡ (dirty_entry_at entries i).block
      → (dirty_entry_at entries i).block < length below
      → cell_at below (dirty_entry_at entries i).block ≡ (dirty_entry_at entries i).cell

-- blocks were written below in rising order: each that is still dirty is above each that no longer is
pub record WritesRising (before after : List ℕ) : Type 0 where
  pub above : (b c : ℕ) → Contains after b → Contains before c → (Contains after c → ⊥) → c < b

-- the dirty block that was written out, where there was one
abbrev pub TakesOut : List DirtyEntry → List DirtyEntry → Result (Option ℕ) Failed → Type 0
TakesOut before after (Ok None) = (before ≡ []) × (after ≡ [])
TakesOut before after (Ok (Some block)) = (0 < length before)
    × IsPermutation (block ∷ map (λ e. e.block) after) (map (λ e. e.block) before)
TakesOut before after (Err failed) = (0 < length before) × (after ≡ before)

-- the order of the blocks is kept, their number, and the room
pub record KeepsOrder (before after : DirtyBlocks) : Type 0 where
  pub order : order_of after ≡ order_of before
  pub blocks : block_count after ≡ block_count before
  pub room : room_of before ≤ room_of after

-- the dirty blocks became a front of what they were, of as many blocks and with as much room
pub record Shrinks (before after : DirtyBlocks) : Type 0 where
  pub front : entries_of after ≡ take (length (entries_of after)) (entries_of before)
  pub no_more : length (entries_of after) ≤ length (entries_of before)
  pub keeps : KeepsOrder before after

-- at most one call was made below
pub record SpendsOne (old new : DiskState) (before after : List DirtyEntry) : Type 0 where
  pub one : old.spare ≤ new.spare + 1
  pub all : old.spare + length after ≤ new.spare + length before + 1

-- a write below was done: one entry is less, and no fault was added
pub record WroteBelow (old new : DiskState) (before after : List DirtyEntry) : Type 0 where
  pub fewer : length after ≡ length before - 1
  pub calls : new.moment + 2 * length after ≡ old.moment + 2 * length before
  pub spare : old.spare + length after ≤ new.spare + length before
  pub no_fault : new.faults ≡ old.faults

-- every write below was done
pub record WroteAllBelow (old new : DiskState) (before after : List DirtyEntry) : Type 0 where
  pub clean : after ≡ []
  pub calls : new.moment ≡ old.moment + 2 * length before
  pub spare : old.spare ≤ new.spare + length before
  pub no_fault : new.faults ≡ old.faults

-- of the calls below each but the last one wrote a block that is dirty no more
abbrev pub CallsOnce : DiskState → DiskState → ℕ → ℕ → Type 0
CallsOnce old new before after = new.moment + 2 * after ≡ old.moment + 2 * before + 2

-- a write below failed, after some
pub record Stopped (old new : DiskState) (before after : List DirtyEntry) : Type 0 where
  pub calls : CallsOnce old new (length before) (length after)
  pub spare : old.spare + length after ≤ new.spare + length before + 1
  pub cause : Rose old.faults new.faults

-- every dirty cell was written below, and then the disk below was flushed
pub record SettlesDirty (old new : DiskState) (before after : List DirtyEntry)
    (result : Result (Unit {0}) Failed) : Type 0 where
  pub writes_back : WrittenBack old new before after
  pub clean : OnOk result (after ≡ [])
  pub settled : OnOk result (IsSettled new)
  pub was : (now : List Cell) → Agrees now old.now before → OnOk result (new.was new.moment ≡ now)
  pub cause : OnErr result (Rose old.faults new.faults)
  pub no_fault : OnOk result (new.faults ≡ old.faults)
