-- What contracts see of a file in memory.
use Rattle.std.specs.Prelude.{◌≡◌, ℕ, ◌^◌, ◌<◌, List, slice_index, true}
use Rattle.nofs_filedisk.specs.Bytes.{HostFileState, IsHostFile}
use Rattle.nofs_filedisk.specs.declared.memory.MemFile.{MemFile}

-- a file that tells its bytes
abbrev pub telling_file : List ℕ → List ℕ → ℕ → HostFileState
telling_file bytes durable faults = record { tells = true; bytes = bytes; durable = durable; faults = faults }

pub telling_file-is : (bytes durable : List ℕ) (faults : ℕ) → faults < 2 ^ 64 → ((k : ℕ) → slice_index bytes k < 256)
    → IsHostFile (telling_file bytes durable faults)
telling_file-is bytes durable faults low small = record { counted = low; small = small }

-- a file stays but for its counts of calls and of faults
pub record StaysButCounts (old new : MemFile) : Type 0 where
  -- its bytes, and those that are durable
  pub bytes : new.bytes ≡ old.bytes
  pub durable : new.durable ≡ old.durable
  -- how many bytes a call moves
  pub piece : new.piece ≡ old.piece
  -- which calls fail
  pub named : new.fails ≡ old.fails
