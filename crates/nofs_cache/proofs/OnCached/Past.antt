-- What a cached disk knows after each of its calls, and what the call did.
use Rattle.std.proofs.Common.{◌≡◌, ℕ, ◌+◌, ◌-◌, ◌*◌, ◌^◌, ◌<◌, ◌≤◌, List, ◌∷◌, length, ap, arith, refl, sym, ◌∙◌}
use Rattle.std.proofs.Common.{Option, Result, Ok, Err}
use Rattle.std.specs.Prelude.{Bool, OnErr, OnOk, is_ok}
use Rattle.std.specs.declared.snapshot.Snapshot.{Snapshot}
use Rattle.nofs_disk.specs.Chains.{IsSameDisk-refl}
use Rattle.nofs_disk.specs.declared.disk.Disk.{Ghosts}
use Rattle.nofs_disk.specs.declared.Failed.{Failed}
use Rattle.nofs_disk.specs.declared.tag.Cell.{Cell}
use Rattle.nofs_disk.specs.Disk.{DiskState, Flushes, IsDisk, IsSameDisk, IsSizedCell, MakesReady, Reads}
use Rattle.nofs_disk.specs.Disk.{StaysButFaults, Writes, WritesOut}
use Rattle.nofs_cache.specs.declared.cached.Cached.{Cached}
use Rattle.nofs_cache.specs.declared.dirty.cells.DirtyBlocks.{DirtyBlocks}
use Rattle.nofs_cache.specs.declared.dirty.cells.DirtyEntry.{DirtyEntry}
use Rattle.nofs_cache.specs.declared.dirty.past.CacheCall.{CacheCall}
use Rattle.nofs_cache.specs.declared.dirty.past.CacheCall.TheVariants.{Write, Flush}
use Rattle.nofs_cache.specs.Cached.{IsMarked, LeavesAll, SettlesDirty, Stopped, TakesOut, WroteBelow, WrittenBack}
use Rattle.nofs_cache.specs.Cached.{began}
use Rattle.nofs_cache.specs.Cached.{cache_state, ended_at}
use Rattle.nofs_cache.specs.Dirty.Blocks.{block_count, entries_of, room_of}
use Rattle.nofs_cache.specs.Dirty.Entries.{HasCell, IsClean, PutsDirtyEntry}
use Rattle.nofs_cache.specs.Laws.{CacheKeeps, cache_is}
use Rattle.nofs_cache.specs.Dirty.Past.{cache_calls}
use Rattle.nofs_cache.proofs.OnCached.Calls.{cache_ready, kept_same, kept_stays, marked_later, marked_more}
use Rattle.nofs_cache.proofs.OnCached.Calls.{reads_below, reads_kept}
use Rattle.nofs_cache.proofs.OnCached.Flushes.{cache_flushes, cache_writes_out, kept_flush, kept_writes_back}
use Rattle.nofs_cache.proofs.OnCached.Leaves.{leaves_during, leaves_now, marked_last}
use Rattle.nofs_cache.proofs.OnCached.Writes.{cache_writes, placed_distinct, put_len, write_kept}

-- a part of what holds where a call succeeded
part_of_ok : {A P Q : Type 0} (result : Result A Failed) → OnOk result P → (P → Q) → OnOk result Q
part_of_ok (Ok x) holds part = part holds
part_of_ok (Err failed) holds part = tt

-- and where it failed
part_of_err : {A P Q : Type 0} (result : Result A Failed) → OnErr result P → (P → Q) → OnErr result Q
part_of_err (Ok x) holds part = tt
part_of_err (Err failed) holds part = part holds

-- what the ghost fields of a cached disk say
abbrev pub Holds : DiskState → DiskState → List CacheCall → DirtyBlocks → ℕ → ℕ → Type 0
Holds under first calls dirty moment spare = record {
  blocks : first.blocks ≡ under.blocks;
  tells : first.tells ≡ under.tells;
  slots : block_count dirty ≡ under.blocks;
  made : moment ≡ 2 * length calls;
  room : 2 * spare + moment < 2 ^ 64;
  kept_room : length (entries_of dirty) + spare ≤ room_of dirty;
  below_room : length (entries_of dirty) + spare ≤ under.spare;
  marked : IsMarked first.moment calls under.moment;
  kept : ∥ CacheKeeps under first calls (entries_of dirty) ∥₁;
}

module _ {D : Type 0} {δ : Ghosts D} (old : Cached D δ) where
  -- the disk below, now and as it was given, the calls so far, and the dirty blocks
  abbrev under : DiskState
  under = δ.state old.under

  abbrev first : DiskState
  first = δ.state old.first.value

  abbrev calls : List CacheCall
  calls = cache_calls old.past.value

  abbrev before : List DirtyEntry
  before = entries_of old.dirty

  -- what contracts see of it
  abbrev seen : DiskState
  seen = cache_state under first calls before old.spare

  -- it after a call that makes no moment: a read below, a reservation, and a write-out
  stays_holds : {new : DiskState} (dirty : DirtyBlocks) (t : ℕ) → IsSameDisk under new
      → under.moment ≤ new.moment → block_count dirty ≡ block_count old.dirty
      → 2 * t + old.moment < 2 ^ 64 → length (entries_of dirty) + t ≤ room_of dirty
      → length (entries_of dirty) + t ≤ new.spare
      → ∥ CacheKeeps new first calls (entries_of dirty) ∥₁ → Holds new first calls dirty old.moment t
  stays_holds dirty t disk later slots room kept_room below_room kept = record {
    blocks = old.blocks ∙ sym disk.blocks;
    tells = old.tells ∙ sym disk.tells;
    slots = slots ∙ old.slots ∙ sym disk.blocks;
    made = old.made;
    room = room;
    kept_room = kept_room;
    below_room = below_room;
    marked = marked_later first.moment calls _ _ later old.marked;
    kept = kept;
  }

  pub read_holds : {new : DiskState} → StaysButFaults under new → Holds new first calls old.dirty old.moment old.spare
  read_holds {new} stays =
      let same = stays.cells.moment in
      let had = old.below_room in
      let has = stays.spare in
      stays_holds old.dirty old.spare stays.disk (omega arith) refl old.room old.kept_room (omega arith)
      (kept_stays under new first calls before stays.past stays.cells stays.disk old.kept)

  pub ready_holds : {E : Type 0} {made : Result (Unit {0}) E} {new : DiskState} {n : ℕ} (dirty : DirtyBlocks) (t : ℕ)
      → MakesReady under new n made
      → block_count dirty ≡ block_count old.dirty
      → entries_of dirty ≡ before → 2 * t + old.moment < 2 ^ 64 → length before + t ≤ room_of dirty
      → length before + t ≤ new.spare → Holds new first calls dirty old.moment t
  ready_holds {new = new} dirty t made slots same room kept_room below_room =
      let stays = made.cells.moment in
      let len = ap length same in
      stays_holds dirty t made.disk (omega arith) slots room (omega arith) (omega arith)
      (kept_same new first calls before (entries_of dirty) same
      (kept_stays under new first calls before made.past made.cells made.disk old.kept))

  pub out_holds : {new : DiskState} (dirty : DirtyBlocks) → WrittenBack under new before (entries_of dirty)
      → block_count dirty ≡ block_count old.dirty
      → length (entries_of dirty) + (old.spare - 1) ≤ room_of dirty
      → length (entries_of dirty) + (old.spare - 1) ≤ new.spare
      → Holds new first calls dirty old.moment (old.spare - 1)
  out_holds {new} dirty wrote slots kept_room below_room =
      let room = old.room in
      stays_holds dirty (old.spare - 1) wrote.disk wrote.later slots (omega arith) kept_room below_room
      (kept_writes_back under new first calls before (entries_of dirty) wrote old.kept)

  -- it after a write or flush that is noted
  noted_holds : {new : DiskState} (dirty : DirtyBlocks) {next : List CacheCall} (call : CacheCall)
      → IsSameDisk under new → under.moment ≤ new.moment
      → block_count dirty ≡ block_count old.dirty
      → next ≡ call ∷ calls → began call ≤ new.moment → ended_at call ≤ new.moment → 1 ≤ old.spare
      → length (entries_of dirty) + (old.spare - 1) ≤ room_of dirty
      → length (entries_of dirty) + (old.spare - 1) ≤ new.spare
      → ∥ CacheKeeps new first (call ∷ calls) (entries_of dirty) ∥₁
      → Holds new first next dirty (old.moment + 2) (old.spare - 1)
  noted_holds dirty call disk later slots noted begins ends some kept_room below_room kept = rw noted (record {
    blocks = old.blocks ∙ sym disk.blocks;
    tells = old.tells ∙ sym disk.tells;
    slots = slots ∙ old.slots ∙ sym disk.blocks;
    made = let made = old.made in omega arith;
    room = let room = old.room in omega arith;
    kept_room = kept_room;
    below_room = below_room;
    marked = marked_more first.moment calls call _ begins ends (marked_later first.moment calls _ _ later old.marked);
    kept = kept;
  })

  -- what the disk below may leave meanwhile, it may leave at the moment during the call
  pub call_leaves : {new : DiskState} (call : CacheCall) (after : List DirtyEntry) (t : ℕ)
      → began call ≡ under.moment → ended_at call ≡ new.moment
      → LeavesAll under.moment new (cache_state new first (call ∷ calls) after t) (2 * length calls + 1)
  call_leaves {new} call after t begins ends = leaves_during under new first calls call after t begins ends

  -- and where the call makes none at the present one
  pub out_leaves : {new : DiskState} (after : List DirtyEntry) (t : ℕ)
      → LeavesAll under.moment new (cache_state new first calls after t) (2 * length calls)
  out_leaves {new} after t =
      leaves_now new first calls after t under.moment (marked_last first.moment calls under.moment old.marked)

  -- what contracts see after a reservation, a read of a dirty block or of another, and a write-out
  pub ready_does : {E : Type 0} {made result : Result (Unit {0}) E} {new : DiskState} {after : List DirtyEntry}
      {m : ℕ} (t n : ℕ)
      → MakesReady under new m made → after ≡ before → old.spare ≤ t → OnOk result (n ≤ t)
      → MakesReady seen (cache_state new first calls after t) n result
  ready_does {new = new} {after = after} t n made same more room =
      cache_ready under new first calls before after old.spare t n made same old.marked more room

  pub kept_reads : {block : ℕ} {cell : Cell} → HasCell before block cell
      → block < under.blocks → ((d : D) → IsDisk (δ.state d))
      → Reads seen seen block cell (Ok tt)
  kept_reads {block} {cell} has low is = reads_kept under first calls before old.spare block cell cell has refl low
      (cache_is under first calls before old.spare (is old.under)
      (is old.first.value) old.blocks old.tells old.made old.room old.kept) old.kept old.marked

  pub below_reads : {new : DiskState} {block : ℕ} {into : Cell} {result : Result (Unit {0}) Failed}
      → IsClean before block → Reads under new block into result
      → Reads seen (cache_state new first calls before old.spare) block into result
  below_reads {new} {block} {into} {result} clean reads =
      reads_below under new first calls before old.spare block into result clean reads old.kept old.marked

  pub out_does : {new : DiskState} {after : List DirtyEntry} {result : Result (Option ℕ) Failed}
      → WrittenBack under new before after
      → TakesOut before after result → OnErr result (Stopped under new before after)
      → OnOk result (WroteBelow under new before after) → 1 ≤ old.spare
      → WritesOut seen (cache_state new first calls after (old.spare - 1)) result
  out_does {new} {after} {result} wrote out stopped one some =
      cache_writes_out under new first calls before after old.spare (old.spare - 1) result wrote out
      (part_of_err result stopped (λ (s : Stopped under new before after). s.cause))
      (part_of_ok result one (λ (w : WroteBelow under new before after). w.no_fault)) old.marked (omega arith)

  -- a write of a cell, and its snapshot
  module _ {b at : ℕ} {cell : Cell} (dirty : DirtyBlocks) (snap : Snapshot Cell) (is : IsDisk under)
      (low : b < under.blocks) (some : 1 ≤ old.spare)
      (size : IsSizedCell cell) (same : snap.value ≡ cell) (begins : at ≡ under.moment)
      (put : PutsDirtyEntry before (entries_of dirty) b cell) where
    pub write_holds : {next : List CacheCall} → block_count dirty ≡ block_count old.dirty
        → room_of old.dirty ≤ room_of dirty → next ≡ Write b snap at ∷ calls
        → Holds under first next dirty (old.moment + 2) (old.spare - 1)
    write_holds slots room noted =
        let more = put_len _ _ _ _ put in
        let kept_room = old.kept_room in
        let below_room = old.below_room in
        noted_holds dirty (Write b snap at) (IsSameDisk-refl under) (omega arith) slots noted (omega arith)
        (omega arith) some (omega arith) (omega arith)
        (write_kept under first calls before (entries_of dirty) b at snap is low (rw same size) begins
        (placed_distinct _ _ old.dirty.placed)
        (rw same put) old.kept)

    pub write_does : Writes seen
        (cache_state under first (Write b snap at ∷ calls) (entries_of dirty) (old.spare - 1)) b cell (Ok tt)
    write_does = rw (← same)
        (cache_writes under first calls before (entries_of dirty) old.spare (old.spare - 1) b at snap is low
        (rw same size) begins
        (placed_distinct _ _ old.dirty.placed) (rw same put) old.kept old.marked (omega arith))

  -- a flush
  module _ {new : DiskState} {from to : ℕ} {result : Result (Unit {0}) Failed} {settles : Bool} (dirty : DirtyBlocks)
      (is : IsDisk new) (some : 1 ≤ old.spare)
      (same : settles ≡ is_ok result) (begins : from ≡ under.moment) (ends : to ≡ new.moment)
      (settled : SettlesDirty under new before (entries_of dirty) result) where
    pub flush_holds : {next : List CacheCall} → block_count dirty ≡ block_count old.dirty
        → next ≡ Flush settles from to ∷ calls
        → length (entries_of dirty) + (old.spare - 1) ≤ room_of dirty
        → length (entries_of dirty) + (old.spare - 1) ≤ new.spare
        → Holds new first next dirty (old.moment + 2) (old.spare - 1)
    flush_holds slots noted kept_room below_room =
        let later = settled.writes_back.later in
        noted_holds dirty (Flush settles from to) settled.writes_back.disk later slots noted (omega arith)
        (omega arith) some kept_room below_room
        (rw same (kept_flush under new first calls before (entries_of dirty) from to result is ends settled old.kept))

    pub flush_does : Flushes seen
        (cache_state new first (Flush settles from to ∷ calls) (entries_of dirty) (old.spare - 1)) result
    flush_does = rw same
        (cache_flushes under new first calls before (entries_of dirty) old.spare
        (old.spare - 1) from to result begins ends settled old.kept old.marked
        (omega arith))
