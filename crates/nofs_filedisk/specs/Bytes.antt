-- What contracts see of a file of bytes, and what each of its calls does.
use Rattle.std.specs.Prelude.{◌≡◌, ℕ, ◌+◌, ◌^◌, ◌<◌, ◌≤◌, ◌⊎◌, nat_lt, if◌then◌else◌, max, Bool, IsTrue, List, length}
use Rattle.std.specs.Prelude.{take, drop, slice_index}
use Rattle.std.specs.Prelude.{Option, Result, IfOk, IfSome, OnOk, OnErr}
use Rattle.nofs_disk.specs.Disk.{Rose}
use Rattle.nofs_disk.specs.declared.Failed.{Failed}
use Rattle.nofs_disk.specs.CellsOfBytes.{cell_in}

-- what contracts see of a file
pub record HostFileState : Type 0 where
  -- whether the file tells what it holds
  pub tells : Bool
  -- its bytes
  pub bytes : List ℕ
  -- what it held when a sync last succeeded
  pub durable : List ℕ
  -- how often a call has failed
  pub faults : ℕ

-- what holds of each file
pub record IsHostFile (f : HostFileState) : Type 0 where
  pub counted : f.faults < 2 ^ 64
  -- each of its bytes is one
  pub small : (k : ℕ) → slice_index f.bytes k < 256

-- these are the bytes from a place on, with zeros past the end
abbrev pub IsPart : List ℕ → ℕ → List ℕ → Type 0
IsPart bytes at part = (k : ℕ) → k < length part → slice_index part k ≡ slice_index bytes (at + k)

-- the length of a file of this length after so many bytes were put at a place
abbrev pub grown : ℕ → ℕ → ℕ → ℕ
grown old at n = if nat_lt 0 n then max old (at + n) else old

-- the part was put at a place, with zeros between the end and it, and nothing else changed
pub record IsPut (at : ℕ) (part old new : List ℕ) : Type 0 where
  pub inside : (k : ℕ) → k < length part → slice_index new (at + k) ≡ slice_index part k
  pub before : (k : ℕ) → k < at → slice_index new k ≡ slice_index old k
  pub behind : (k : ℕ) → at + length part ≤ k → slice_index new k ≡ slice_index old k
  pub len : length new ≡ grown (length old) at (length part)

-- the first bytes of the part were put at a place, no matter how many
pub record IsPartlyPut (at : ℕ) (part old new : List ℕ) : Type 0 where
  pub count : ℕ
  pub fits : count ≤ length part
  pub put : IsPut at (take count part) old new

-- a call changes nothing but the count of faults
pub record KeepsBytes (old new : HostFileState) : Type 0 where
  pub tells : new.tells ≡ old.tells
  pub faults : old.faults ≤ new.faults
  pub bytes : new.bytes ≡ old.bytes
  pub durable : new.durable ≡ old.durable

-- a call makes nothing durable
pub record KeepsDurable (old new : HostFileState) : Type 0 where
  pub tells : new.tells ≡ old.tells
  pub faults : old.faults ≤ new.faults
  pub durable : new.durable ≡ old.durable

-- `read_at(at, into)`: some bytes, none only at the end
pub record ReadsSome (old new : HostFileState) (at : ℕ) (from into : List ℕ) (result : Result ℕ Failed) : Type 0 where
  pub keeps : KeepsBytes old new
  pub len : length into ≡ length from
  pub fits : IfOk result (λ n. n ≤ length from)
  pub part : IfOk result (λ n. IsTrue old.tells → IsPart old.bytes at (take n into))
  pub end : IfOk result (λ n. n ≡ 0 → 0 < length from → IsTrue old.tells → length old.bytes ≤ at)
  pub cause : OnErr result (Rose old.faults new.faults)
  pub no_fault : OnOk result (new.faults ≡ old.faults)

-- `read_ahead(at, into)`: some bytes, or none of them and no fault
pub record ReadsAhead (old new : HostFileState) (at : ℕ) (from into : List ℕ)
    (result : Result (Option ℕ) Failed) : Type 0 where
  pub keeps : KeepsBytes old new
  pub len : length into ≡ length from
  pub fits : IfOk result (λ told. IfSome told (λ n. n ≤ length from))
  pub part : IfOk result (λ told. IfSome told (λ n. IsTrue old.tells → IsPart old.bytes at (take n into)))
  pub cause : OnErr result (Rose old.faults new.faults)
  pub no_fault : OnOk result (new.faults ≡ old.faults)

-- some bytes are read behind the first ones of a slice, which are done
pub record ReadsBehind (old new : HostFileState) (at first : ℕ) (from into : List ℕ)
    (result : Result ℕ Failed) : Type 0 where
  -- the file stays
  pub keeps : KeepsBytes old new
  -- so do the length of the slice and its first bytes
  pub len : length into ≡ length from
  pub done : take first into ≡ take first from
  -- not more than there is room for
  pub fits : IfOk result (λ n. first + n ≤ length from)
  -- the bytes behind them are those of the file
  pub part : IfOk result (λ n. IsTrue old.tells → IsPart old.bytes (at + first) (take n (drop first into)))
  -- none only at the end
  pub end : IfOk result (λ n. n ≡ 0 → IsTrue old.tells → length old.bytes ≤ at + first)
  -- a call fails only by the file's, and one that succeeds counts no fault
  pub cause : OnErr result (Rose old.faults new.faults)
  pub no_fault : OnOk result (new.faults ≡ old.faults)

-- `write_at(at, part)`: some bytes, at least one where there is one; where it fails, any of them
pub record WritesSome (old new : HostFileState) (at : ℕ) (part : List ℕ) (result : Result ℕ Failed) : Type 0 where
  pub keeps : KeepsDurable old new
  pub fits : IfOk result (λ n. n ≤ length part)
  pub some : IfOk result (λ n. 0 < length part → 0 < n)
  pub put : IfOk result (λ n. IsTrue old.tells → IsPut at (take n part) old.bytes new.bytes)
  pub err : OnErr result (IsTrue old.tells → IsPartlyPut at part old.bytes new.bytes)
  pub cause : OnErr result (Rose old.faults new.faults)
  pub no_fault : OnOk result (new.faults ≡ old.faults)

-- of each cell the durable bytes are what they were, or those of the file
abbrev pub LastsOrMoves : HostFileState → HostFileState → Type 0
LastsOrMoves old new =
    IsTrue old.tells
    → (b : ℕ) → (cell_in new.durable b ≡ cell_in old.durable b) ⊎ (cell_in new.durable b ≡ cell_in old.bytes b)

-- what a file that tells holds is durable
abbrev pub IsSynced : HostFileState → Type 0
IsSynced file = IsTrue file.tells → (b : ℕ) → cell_in file.durable b ≡ cell_in file.bytes b

-- `sync()`: all bytes are durable; where it fails, perhaps those of some cells
pub record Syncs (old new : HostFileState) (result : Result (Unit {0}) Failed) : Type 0 where
  pub tells : new.tells ≡ old.tells
  pub bytes : new.bytes ≡ old.bytes
  pub faults : old.faults ≤ new.faults
  pub durable : OnOk result (new.durable ≡ old.bytes)
  pub err : OnErr result (LastsOrMoves old new)
  pub cause : OnErr result (Rose old.faults new.faults)
  pub no_fault : OnOk result (new.faults ≡ old.faults)
