-- What a read of slots answers.
use Rattle.std.specs.Prelude.{◌≡◌, ℕ, ◌+◌, ◌*◌, ◌<◌, ◌≤◌, List, length, Option, Some, if◌then◌else◌, nat_lt, nat_le}
use Rattle.std.specs.Prelude.{Bool, true, false, drop, slice_range}
use Rattle.nofs_ptrs.specs.Paths.{slot_limit}
use Rattle.nofs_model.specs.Geometry.{Image}
use Rattle.nofs_model.specs.Slots.{value}
use Rattle.nofs_model.specs.declared.image.value.Value.{Value}
use Rattle.nofs_model.specs.declared.image.value.Value.TheVariants as value
use Rattle.nofs_reader.specs.Answers.{inode_unread}
use Rattle.nofs_reader.specs.declared.gets.Run.{Run}
use Rattle.nofs_reader.specs.declared.gets.RunKind.{RunKind}
use Rattle.nofs_reader.specs.declared.gets.RunKind.TheVariants as run
use Rattle.nofs_reader.specs.declared.opened.Unread.{Unread}
use Rattle.nofs_reader.specs.declared.opened.Unread.TheVariants.{NoRoom, TooLarge}
use Rattle.nofs_reader.specs.declared.opened.Wanted.TheVariants as wanted

-- the value of a slot of this kind, where it has these bytes
abbrev pub value_as : RunKind → List ℕ → Value
value_as run.Bytes part = value.Bytes part
value_as run.Holes part = value.Hole
value_as run.Lost part = value.Lost

abbrev pub is_bytes : RunKind → Bool
is_bytes run.Bytes = true
is_bytes run.Holes = false
is_bytes run.Lost = false

-- why a slot of a file is not read into so much room
abbrev pub get_unread : Image → ℕ → ℕ → ℕ → Option Unread
get_unread X i k room =
    if nat_lt room 1024 then Some NoRoom
    else if nat_le slot_limit k then Some TooLarge
    else inode_unread wanted.Files X i

-- some slots from one on: at least one, all with the values of this kind, and their bytes one slot after the other
pub record IsRun (X : Image) (i from : ℕ) (into : List ℕ) (it : Run) : Type 0 where
  pub some : 1 ≤ it.slots
  pub range : from + it.slots ≤ slot_limit
  pub fits : 1024 * it.slots ≤ length into
  pub each : (k : ℕ) → k < it.slots
      → value X i (from + k) ≡ value_as it.kind (slice_range into (1024 * k) (1024 * k + 1024))

-- only the bytes of its slots are put there: what stands behind them stays, and for a run without bytes all does
pub record RestKept (old new : List ℕ) (it : Run) : Type 0 where
  pub behind : drop (1024 * it.slots) new ≡ drop (1024 * it.slots) old
  pub bare : is_bytes it.kind ≡ false → new ≡ old
