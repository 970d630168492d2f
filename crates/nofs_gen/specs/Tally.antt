-- The line of a drill: its numbers, by the lines of its users, what was read of their files, and the history.
use Rattle.std.specs.Prelude.{ℕ, ◌+◌, ◌*◌, Bool, true, false, List, [], ◌∷◌, ◌++◌, take, codes, sum, bytes_eq}
use Rattle.std.specs.Prelude.{if◌then◌else◌, Some, None}
use Rattle.std.specs.Fmt.{decimal}
use Rattle.std.specs.declared.option.Option.{Option}
use Rattle.nofs_model.specs.declared.image.value.Value.{Value}
use Rattle.nofs_model.specs.declared.image.value.Value.TheVariants as value
use Rattle.nofs_history.specs.Machine.{cut_of}
use Rattle.nofs_history.specs.declared.machine.history.Entry1.{Entry1}
use Rattle.nofs_history.specs.declared.machine.replies.Reply.{Reply}
use Rattle.nofs_history.specs.declared.machine.replies.Reply.TheVariants as reply
use Rattle.nofs_client.specs.declared.task.lines.Line.{Line}
use Rattle.nofs_client.specs.declared.task.lines.Line.TheVariants as line
use Rattle.nofs_gen.specs.Replay.{replay_of, slot_value}
use Rattle.nofs_gen.specs.declared.tally.FileRead.{FileRead}

-- the size of a file, 0 where it was not read
abbrev pub size_told : Option FileRead → ℕ
size_told None = 0
size_told (Some file) = file.size

-- the sum of the first bytes of a slot; a slot that has none counts 0
abbrev pub slot_sum : ℕ → Reply → ℕ
slot_sum cut (reply.Bytes bytes) = sum (take cut bytes)
slot_sum cut _ = 0

-- the sum of all bytes of the slots from k on that lie below the size
abbrev pub slots_sum : ℕ → ℕ → List Reply → ℕ
slots_sum size k [] = 0
slots_sum size k (r ∷ rs) = slot_sum (cut_of size k) r + slots_sum size (k + 1) rs

abbrev pub sum_told : Option FileRead → ℕ
sum_told None = 0
sum_told (Some file) = slots_sum file.size 0 file.slots.items

-- whether a slot has this value
abbrev pub is_hole_read : Reply → Bool
is_hole_read reply.Hole = true
is_hole_read _ = false

abbrev pub is_bytes_read : List ℕ → Reply → Bool
is_bytes_read bytes (reply.Bytes found) = bytes_eq bytes found
is_bytes_read bytes _ = false

abbrev pub is_value_read : Value → Reply → Bool
is_value_read value.Hole r = is_hole_read r
is_value_read (value.Bytes bytes) r = is_bytes_read bytes r
is_value_read value.Lost r = false

-- how many slots from k on differ from these values
abbrev pub slots_wrong : List Value → ℕ → List Reply → ℕ
slots_wrong values k [] = 0
slots_wrong values k (r ∷ rs) = (if is_value_read (slot_value values k) r then 0 else 1) + slots_wrong values (k + 1) rs

-- how many slots of a file differ from what its accepted steps give; a file that was not read counts 1
abbrev pub wrong_told : List Entry1 → Option FileRead → ℕ
wrong_told H None = 1
wrong_told H (Some file) = slots_wrong (replay_of H file.found.inode file.found.generation) 0 file.slots.items

-- whether a line tells of a refusal
abbrev pub is_refused_line : Line → Bool
is_refused_line (line.Refused _) = true
is_refused_line (line.RefusedPut _ _) = true
is_refused_line line.Made = false
is_refused_line (line.Put _) = false
is_refused_line (line.Got _) = false
is_refused_line (line.Sized _) = false
is_refused_line (line.Stat _) = false
is_refused_line (line.Names _) = false
is_refused_line line.Linked = false
is_refused_line line.Dropped = false
is_refused_line line.Renamed = false
is_refused_line line.Synced = false
is_refused_line line.Moved = false

-- the line of a drill
unfoldable pub drill_line : ℕ → ℕ → ℕ → ℕ → ℕ → ℕ → List ℕ
drill_line start steps refused bytes total wrong =
    codes "drill " ++ decimal start ++ codes " " ++ decimal steps ++ codes ": commands " ++ decimal (4 * (steps + 3))
    ++ codes ", refused " ++ decimal refused ++ codes ", bytes " ++ decimal bytes ++ codes ", sum " ++ decimal total
    ++ codes ", wrong " ++ decimal wrong ++ codes "\n"
