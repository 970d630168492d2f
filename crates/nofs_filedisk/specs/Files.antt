-- What contracts see of a disk in a file: the cells that the file had first, and the writes and flushes since.
use Rattle.std.specs.Prelude.{◌≡◌, ℕ, ◌+◌, ◌*◌, ◌^◌, ◌<◌, Contains, IsTrue, List, length, refl}
use Rattle.std.proofs.Common.{arith}
use Rattle.nofs_disk.specs.Disk.{DiskState, IsDisk}
use Rattle.nofs_disk.specs.Held.{Held}
use Rattle.nofs_disk.specs.CellsOfBytes.{cell_in, cells_in, length-cells_in}
use Rattle.nofs_versions.specs.declared.call.Call.{Call}
use Rattle.nofs_versions.specs.Memory.{held_after, state_of}
use Rattle.nofs_versions.specs.Laws.{AreSized, state_of-is}
use Rattle.nofs_filedisk.specs.Bytes.{HostFileState, IsHostFile}
use Rattle.nofs_filedisk.specs.Told.{telling_disk, telling_disk-is}

-- what a disk holds after these calls, over a file that was this one at first
abbrev pub file_held : HostFileState → List Call → Held
file_held first calls = held_after (cells_in first.bytes) calls

-- each cell that it may hold has the bytes of a cell
abbrev pub FileSized : HostFileState → List Call → Type 0
FileSized first calls = AreSized (length (cells_in first.bytes)) (held_after (cells_in first.bytes) calls).may

-- each durable cell is one that a crash may leave
abbrev pub LastsWithin : HostFileState → HostFileState → List Call → Type 0
LastsWithin file first calls =
    IsTrue file.tells → (b : ℕ) → b < 1048576 → ∥ Contains ((file_held first calls).may b) (cell_in file.durable b) ∥₁

-- what contracts see of it
abbrev pub file_state : HostFileState → HostFileState → List Call → ℕ → DiskState
file_state file first calls spare =
    telling_disk file.tells 1048576 (state_of 0 (cells_in first.bytes) calls spare file.faults)

pub file_is : (file first : HostFileState) (calls : List Call) (moment spare : ℕ) → IsHostFile file
    → moment ≡ 2 * length calls
    → 2 * spare + moment < 2 ^ 64 → FileSized first calls → IsDisk (file_state file first calls spare)
file_is file first calls moment spare is made room sized =
    let low : 2 * spare + (0 + 2 * length calls) < 2 ^ 64 = omega arith in
    telling_disk-is file.tells 1048576 (state_of 0 (cells_in first.bytes) calls spare file.faults)
    (length-cells_in first.bytes) refl
    (state_of-is 0 (cells_in first.bytes) calls spare file.faults low is.counted sized)
