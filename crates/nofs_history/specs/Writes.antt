-- What a step writes: how many cells, by its claims and by the files before it, and which answers it makes calls
-- before.
use Rattle.std.specs.Prelude.{◌≡◌, ℕ, zero, suc, ◌+◌, ◌-◌, ◌/◌, ◌%◌, ◌≤◌, min, Bool, true, false, ◌&&◌, not, List, []}
use Rattle.std.specs.Prelude.{◌∷◌, length, Option, Some, None, if◌then◌else◌, nat_le, ◌==◌}
use Rattle.nofs_model.specs.Files.{Files}
use Rattle.nofs_ptrs.specs.Paths.{Path, InRecord, Under, path_of}
use Rattle.nofs_model.specs.Geometry.{in_one_table_cell}
use Rattle.nofs_history.specs.Meta.{is_bytes}
use Rattle.nofs_history.specs.Machine.{files_by, is_write_fault, node_of, place_for, size_of, slots_in, value_of}
use Rattle.nofs_history.specs.Claims.{claimed_blocks, is_present}
use Rattle.nofs_history.specs.declared.machine.history.Claims.{Claims}
use Rattle.nofs_history.specs.declared.machine.history.Entry1.{Entry1}
use Rattle.nofs_history.specs.declared.machine.steps.Step.{Step}
use Rattle.nofs_history.specs.declared.machine.steps.Step.TheVariants as step
use Rattle.nofs_history.specs.declared.machine.replies.Reply.{Reply}
use Rattle.nofs_history.specs.declared.machine.replies.Reply.TheVariants as reply

-- the step that flushes
abbrev pub is_flush : Step → Bool
is_flush (step.Flush i g) = true
is_flush (step.Look d g name) = false
is_flush (step.Make d g name kind) = false
is_flush (step.Link d g name i of) = false
is_flush (step.Drop d g name) = false
is_flush (step.Rename d g old new) = false
is_flush (step.List d g slot) = false
is_flush (step.Get i g k) = false
is_flush (step.Put i g k at bytes) = false
is_flush (step.Resize i g size) = false
is_flush (step.Stat i g) = false
is_flush (step.SeeInode i) = false
is_flush (step.SeeBlock p) = false

-- the answer of a step that asked the device to write or to flush
abbrev pub makes_calls : Reply → Bool
makes_calls (reply.Made i g) = true
makes_calls reply.Linked = true
makes_calls (reply.Dropped removed) = true
makes_calls reply.Renamed = true
makes_calls reply.Stored = true
makes_calls reply.Resized = true
makes_calls reply.Flushed = true
makes_calls (reply.Refused why) = is_write_fault (reply.Refused why)
makes_calls (reply.Found found) = false
makes_calls (reply.Names slot names) = false
makes_calls (reply.LostNames slot) = false
makes_calls reply.NoMore = false
makes_calls (reply.Bytes bytes) = false
makes_calls reply.Hole = false
makes_calls reply.Lost = false
makes_calls (reply.Stat stat) = false
makes_calls (reply.Seen seen) = false

-- A new block of the way to a slot changes what stands above it: a block of pointers, or the record itself

-- how many blocks of pointers above a slot are written where so many blocks of its way are claimed
abbrev pub pointers_written : ℕ → Path → ℕ
pointers_written zero way = 0
pointers_written (suc m) (InRecord n) = 0
pointers_written (suc m) (Under above n) = 1 + pointers_written m above

-- whether the record gets a pointer where so many are
abbrev pub reaches_record : ℕ → Path → Bool
reaches_record zero way = false
reaches_record (suc m) (InRecord n) = true
reaches_record (suc m) (Under above n) = reaches_record m above

-- The rows

-- a new name of inode i in directory d: the cell of its entry, the record of the inode, and what stands above each of m
-- claimed blocks. Where that is the directory's record, in one cell with the other, the cell is written once
abbrev pub name_cells : ℕ → ℕ → ℕ → Path → ℕ
name_cells m d i way = 1 + m + (if reaches_record m way && in_one_table_cell d i then 0 else 1)

-- where its entry has a place
abbrev pub name_cells_at : Option ℕ → ℕ → ℕ → ℕ → ℕ
name_cells_at None m d i = 0
name_cells_at (Some e) m d i = name_cells m d i (path_of (e / 16))

-- the last cell of a file that does not shrink below it, where its old end lies inside: zeros come behind that end
abbrev pub tail_cells : Files → ℕ → ℕ → ℕ
tail_cells F i size = if nat_le (size_of F i) size && (not (size_of F i % 1024 == 0)
    && is_bytes (value_of F i (size_of F i / 1024))) then 1 else 0

-- a block of pointers that is there
abbrev pub node_cells : Files → ℕ → Path → ℕ
node_cells F i path = if is_present (node_of F i path) then 1 else 0

-- the blocks of pointers in which the slots end that stay, where m of them do: the leaf, or a child and the top
abbrev pub edge_cells : Files → ℕ → ℕ → ℕ
edge_cells F i m = if nat_le m 8 then 0 else (if nat_le m 72 then node_cells F i (InRecord 8)
    else node_cells F i (Under (InRecord 9) ((m - 73) / 64)) + node_cells F i (InRecord 9))

-- HOW MANY CELLS a step writes, by the files before it and its claims
abbrev pub cells_written : Files → Step → Claims → ℕ
cells_written F (step.Make d g name kind) c = name_cells_at (place_for F d name) (length (claimed_blocks c)) d c.inode
cells_written F (step.Link d g name i of) c = name_cells_at (place_for F d name) (length (claimed_blocks c)) d i
-- the cell of the entry, and the record of what it named
cells_written F (step.Drop d g name) c = 2
-- the cell of the entry
cells_written F (step.Rename d g old new) c = 1
-- the cell, the blocks of pointers above it that change, and the record
cells_written F (step.Put i g k at bytes) c = 2 + pointers_written (length (claimed_blocks c)) (path_of k)
cells_written F (step.Resize i g size) c =
    1 + tail_cells F i size + edge_cells F i (min (slots_in (size_of F i)) (slots_in size))
cells_written F (step.Look d g name) c = 0
cells_written F (step.List d g slot) c = 0
cells_written F (step.Get i g k) c = 0
cells_written F (step.Stat i g) c = 0
cells_written F (step.Flush i g) c = 0
cells_written F (step.SeeInode i) c = 0
cells_written F (step.SeeBlock p) c = 0

-- the same where the files are not known, as over a device that does not tell: a new name may go to any slot, and a
-- Resize writes the record and at most three other cells. No other step writes
abbrev pub WritesSoMany : Step → Claims → ℕ → Type 0
WritesSoMany (step.Make d g name kind) c n = (way : Path) × (n ≡ name_cells (length (claimed_blocks c)) d c.inode way)
WritesSoMany (step.Link d g name i of) c n = (way : Path) × (n ≡ name_cells (length (claimed_blocks c)) d i way)
WritesSoMany (step.Drop d g name) c n = n ≡ 2
WritesSoMany (step.Rename d g old new) c n = n ≡ 1
WritesSoMany (step.Put i g k at bytes) c n = n ≡ 2 + pointers_written (length (claimed_blocks c)) (path_of k)
WritesSoMany (step.Resize i g size) c n = (1 ≤ n) × (n ≤ 4)
WritesSoMany (step.Look d g name) c n = ⊥
WritesSoMany (step.List d g slot) c n = ⊥
WritesSoMany (step.Get i g k) c n = ⊥
WritesSoMany (step.Stat i g) c n = ⊥
WritesSoMany (step.Flush i g) c n = ⊥
WritesSoMany (step.SeeInode i) c n = ⊥
WritesSoMany (step.SeeBlock p) c n = ⊥

-- those of an entry: of its step, where it made calls
abbrev pub entry_cells : Files → Entry1 → ℕ
entry_cells F e = if makes_calls e.reply then cells_written F e.step e.claims else 0

-- and of a history, from these files on
abbrev pub cells_along : Files → List Entry1 → ℕ
cells_along F [] = 0
cells_along F (e ∷ es) = entry_cells F e + cells_along (files_by F e) es
