-- A disk in memory, by the cells that it began with and the writes and flushes since.
use Rattle.std.specs.Prelude.{◌≡◌, ◌⊎◌, ℕ, ◌+◌, ◌-◌, ◌*◌, ◌/◌, ◌<◌, ◌≤◌, ◌==◌, nat_lt, if◌then◌else◌, Bool, true, false}
use Rattle.std.specs.Prelude.{◌&&◌, List, [], ◌∷◌, length}
use Rattle.std.specs.Prelude.{take, fold, slice_index_or, slice_set}
use Rattle.nofs_disk.specs.declared.tag.Cell.{Cell}
use Rattle.nofs_disk.specs.Disk.{DiskState, Picks, cell_at, no_cell}
use Rattle.nofs_disk.specs.Held.{Held, written}
use Rattle.nofs_versions.specs.declared.call.Call.{Call}
use Rattle.nofs_versions.specs.declared.call.Pick.{Pick}
use Rattle.nofs_versions.specs.declared.search.Search.{Search}
use Rattle.nofs_versions.specs.declared.call.Call.TheVariants.{Write, Flush}

-- each block may hold its cell alone
abbrev pub settled : List Cell → Held
settled cells = record { now = cells; may = λ b. cell_at cells b ∷ [] }

-- the cells with one that is taken or not
abbrev pub put_if : Bool → List Cell → ℕ → Cell → List Cell
put_if true cells block cell = slice_set cells block cell
put_if false cells block cell = cells

abbrev pub after_write : Bool → Held → ℕ → Cell → Held
after_write true held block cell = written held block cell
after_write false held block cell = held

abbrev pub after_flush : Bool → Held → Held
after_flush true held = settled held.now
after_flush false held = held

abbrev pub after_call : Held → Call → Held
after_call held (Write block cell taken) = after_write taken held block cell
after_call held (Flush settles) = after_flush settles held

-- what the disk holds after these calls
unfoldable pub held_after : List Cell → List Call → Held
held_after base calls = fold after_call (settled base) calls

-- the lists of the blocks that there are; there is nothing past the end
abbrev pub within : ℕ → (ℕ → List Cell) → ℕ → List Cell
within blocks may b = if nat_lt b blocks then may b else []

-- how many cells a block may hold after a call
abbrev pub count_after : ℕ → ℕ → Call → ℕ
count_after block n (Write b cell taken) = if taken && (block == b) then n + 1 else n
count_after block n (Flush settles) = if settles then 1 else n

-- the cells of which a crash during a call leaves one
abbrev pub may_during : Held → Call → ℕ → List Cell
may_during held (Write block cell taken) = (after_write taken held block cell).may
may_during held (Flush settles) = held.may

abbrev pub call_at : List Call → ℕ → Call
call_at calls k = slice_index_or calls k (Flush false)

-- a crash after the first k calls
pub record LeftAfter (start : ℕ) (base : List Cell) (calls : List Call) (m : ℕ) (image : List Cell) : Type 0 where
  pub k : ℕ
  pub at : m ≡ start + 2 * k
  pub made : k ≤ length calls
  pub picks : Picks (held_after base (take k calls)).may (length base) image

-- a crash during the call after the first k
pub record LeftDuring (start : ℕ) (base : List Cell) (calls : List Call) (m : ℕ) (image : List Cell) : Type 0 where
  pub k : ℕ
  pub at : m ≡ start + 2 * k + 1
  pub made : k < length calls
  pub picks : Picks (may_during (held_after base (take k calls)) (call_at calls k)) (length base) image

abbrev pub MayLeave : ℕ → List Cell → List Call → ℕ → List Cell → Type 0
MayLeave start base calls m image = LeftAfter start base calls m image ⊎ LeftDuring start base calls m image

-- what contracts see of it
abbrev pub state_of : ℕ → List Cell → List Call → ℕ → ℕ → DiskState
state_of start base calls spare faults = record {
  blocks = length base;
  moment = start + 2 * length calls;
  spare = spare;
  faults = faults;
  tells = true;
  now = (held_after base calls).now;
  may = within (length base) (held_after base calls).may;
  was = λ m. (held_after base (take ((m - start) / 2) calls)).now;
  left = MayLeave start base calls;
  dirty = [];
  holds_back = false;
}

-- the search for a version of a block, after one call more
abbrev pub searched : Search → ℕ → ℕ → Call → Search
searched search block version (Write at cell taken) =
    if taken && (at == block) then record {
      count = search.count + 1;
      last = cell;
      found = if search.count == version then cell else search.found;
    } else search
searched search block version (Flush settles) =
    if settles then record { count = 1; last = search.last; found = if version == 0 then search.last else search.found }
    else search

-- what is known of a search
pub record IsSearch (held : Held) (block version : ℕ) (search : Search) : Type 0 where
  pub count : search.count ≡ length (held.may block)
  pub last : block < length held.now → search.last ≡ cell_at held.now block
  pub found : block < length held.now
      → version < search.count → search.found ≡ slice_index_or (held.may block) version no_cell

-- a pick of a block that is there, and of a cell that it may hold
pub record PicksVersions (disk : DiskState) (pick : Pick) : Type 0 where
  pub block : pick.block < disk.blocks
  pub version : pick.version < length (disk.may pick.block)

-- the cells with each pick in its place
abbrev pub picked : (ℕ → List Cell) → List Cell → List Pick → List Cell
picked may cells [] = cells
picked may cells (pick ∷ picks) =
    picked may (slice_set cells pick.block (slice_index_or (may pick.block) pick.version no_cell)) picks
