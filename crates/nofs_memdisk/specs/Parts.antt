-- The parts of a disk in memory that contracts see, and what its calls make of them.
use Rattle.std.specs.Prelude.{ℕ, List, [], ◌∷◌, ◌++◌, length, ◌+◌, ◌-◌, ◌*◌, Bool, true, Option, is_none, unwrap_or}
use Rattle.std.specs.Prelude.{slice_set}
use Rattle.nofs_disk.specs.declared.tag.Cell.{Cell}
use Rattle.nofs_disk.specs.Disk.{DiskState}
use Rattle.nofs_versions.specs.declared.call.Call.{Call}
use Rattle.nofs_versions.specs.declared.call.Call.TheVariants.{Write, Flush}
use Rattle.nofs_versions.specs.declared.call.CallKind.TheVariants as kind
use Rattle.nofs_versions.specs.declared.call.FaultAt.{FaultAt}
use Rattle.nofs_memdisk.specs.declared.memory.MemDisk.{MemDisk}
use Rattle.nofs_versions.specs.Faults.{faults_after_call, fault_of, next}
use Rattle.nofs_versions.specs.Memory.{held_after, state_of}

-- what contracts of every disk see of it
abbrev pub memory_state : MemDisk → DiskState
memory_state d = state_of d.start d.base.items d.calls.items d.spare d.faults

-- what contracts compare of a disk in memory
pub record Parts : Type 0 where
  -- the moment at which the calls that it keeps began
  pub start : ℕ
  -- the flushed cells at that moment
  pub base : List Cell
  -- the writes and flushes since
  pub calls : List Call
  -- for how many writes, flushes and write-outs there is room
  pub spare : ℕ
  -- how often a call has failed
  pub faults : ℕ
  -- the calls that are to fail
  pub fails : List FaultAt
  -- how many calls of each kind were made
  pub reads : ℕ
  pub writes : ℕ
  pub flushes : ℕ

abbrev pub parts_of : MemDisk → Parts
parts_of d = record {
  start = d.start;
  base = d.base.items;
  calls = d.calls.items;
  spare = d.spare;
  faults = d.faults;
  fails = d.fails.items;
  reads =
      d.reads;
  writes = d.writes;
  flushes = d.flushes;
}

-- a disk that holds these cells as flushed content, at moment 0, that has had no calls, none of which is to fail
abbrev pub fresh_parts : List Cell → Parts
fresh_parts cells = record {
  start = 0;
  base = cells;
  calls = [];
  spare = 0;
  faults = 0;
  fails = [];
  reads = 0;
  writes = 0;
  flushes = 0;
}

-- a cell was laid down as flushed content
abbrev pub laid : Parts → ℕ → Cell → Parts
laid d block cell = record d
    { start = d.start + 2 * length d.calls; base = slice_set (held_after d.base d.calls).now block cell; calls = [] }

-- the faults of the next read, write and flush
abbrev pub read_fault : Parts → Option Bool
read_fault d = fault_of d.fails kind.Read (next d.reads)

abbrev pub write_fault : Parts → Option Bool
write_fault d = fault_of d.fails kind.Write (next d.writes)

abbrev pub flush_fault : Parts → Option Bool
flush_fault d = fault_of d.fails kind.Flush (next d.flushes)

-- room was made for so many calls
abbrev pub made_ready : Parts → ℕ → Parts
made_ready d spare = record d { spare = spare }

-- a write-out was made, of which there is never one to do
abbrev pub has_written_out : Parts → Parts
has_written_out d = record d { spare = d.spare - 1 }

-- a read was made
abbrev pub has_read : Parts → Parts
has_read d = record d { reads = next d.reads; faults = faults_after_call (read_fault d) d.faults }

-- a write was made: it is taken but where it fails and was named as not taken
abbrev pub has_written : Parts → ℕ → Cell → Parts
has_written d block cell = record d {
  calls = d.calls ++ Write block cell (unwrap_or (write_fault d) true) ∷ [];
  spare = d.spare - 1;
  writes =
      next d.writes;
  faults = faults_after_call (write_fault d) d.faults;
}

-- a flush was made: it settles all but where it fails
abbrev pub has_flushed : Parts → Parts
has_flushed d = record d {
  calls = d.calls ++ Flush (is_none (flush_fault d)) ∷ [];
  spare = d.spare - 1;
  flushes = next d.flushes;
  faults =
      faults_after_call (flush_fault d) d.faults;
}
