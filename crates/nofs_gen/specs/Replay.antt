-- The values of a file, by the steps on it that a history accepted.
use Rattle.std.specs.Prelude.{ℕ, ◌+◌, ◌-◌, ◌*◌, ◌/◌, ◌%◌, min, max, ◌==◌, nat_lt, nat_le, ◌&&◌, not, Bool, List, []}
use Rattle.std.specs.Prelude.{◌++◌, length, take, replicate, fold}
use Rattle.std.specs.Prelude.{slice_get, slice_set, unwrap_or, map, if◌then◌else◌}
use Rattle.nofs_model.specs.declared.image.value.Value.{Value}
use Rattle.nofs_model.specs.declared.image.value.Value.TheVariants as value
use Rattle.nofs_history.specs.Machine.{slots_in, put_content, is_at, is_refused, trimmed_value}
use Rattle.nofs_history.specs.declared.machine.history.Entry1.{Entry1}
use Rattle.nofs_history.specs.declared.machine.steps.Step.{Step}
use Rattle.nofs_history.specs.declared.machine.steps.Step.TheVariants as step
use Rattle.nofs_gen.specs.declared.file.KeptValue.{KeptValue}
use Rattle.nofs_gen.specs.declared.file.KeptValue.TheVariants as kept
use Rattle.nofs_gen.specs.declared.file.Replayed.{Replayed}

-- the size of a file, and the values of its slots
pub record FileContent : Type 0 where
  pub size : ℕ
  pub values : List Value

-- up to 72 slots, holes behind these
abbrev pub padded : List Value → List Value
padded values = values ++ replicate (72 - length values) value.Hole

-- what is kept of a slot, and of a file
abbrev pub kept_value : KeptValue → Value
kept_value kept.Hole = value.Hole
kept_value (kept.Bytes bytes) = value.Bytes bytes.value

abbrev pub replayed_file : Replayed → FileContent
replayed_file f = record { size = f.size; values = map kept_value f.values.items }

-- a file on which no step was made
abbrev pub empty_file : FileContent
empty_file = record { size = 0; values = padded [] }

-- the value of a slot
abbrev pub slot_value : List Value → ℕ → Value
slot_value values k = unwrap_or (slice_get values k) value.Hole

-- bytes that lie in one of the 72 slots
abbrev pub is_put : ℕ → ℕ → List ℕ → Bool
is_put k at bytes = nat_lt k 72 && (nat_lt 0 (length bytes) && nat_le (at + length bytes) 1024)

-- a file with these bytes in slot k
abbrev pub put_file : FileContent → ℕ → ℕ → List ℕ → FileContent
put_file f k at bytes =
    if is_put k at bytes then record {
      size = max f.size (1024 * k + at + length bytes);
      values = slice_set f.values k (value.Bytes (put_content (slot_value f.values k) f.size k at bytes));
    } else f

-- where a file does not shrink, its bytes past the old end become zeros
abbrev pub ended : FileContent → ℕ → List Value
ended f size =
    if nat_le f.size size && not (f.size % 1024 == 0)
    then slice_set f.values (f.size / 1024)
    (trimmed_value (f.size % 1024) (slot_value f.values (f.size / 1024))) else f.values

-- a file with another size: what lies behind the lesser of both sizes becomes holes
abbrev pub resized_content : FileContent → ℕ → FileContent
resized_content f size =
    record { size = size; values = padded (take (min (slots_in f.size) (slots_in size)) (ended f size)) }

-- the file (i, g) after an accepted step
abbrev pub file_with_step : ℕ → ℕ → FileContent → Step → FileContent
file_with_step i g f (step.Put j h k at bytes) = if is_at i g j h then put_file f k at bytes else f
file_with_step i g f (step.Resize j h size) = if is_at i g j h then resized_content f size else f
file_with_step i g f (step.Look _ _ _) = f
file_with_step i g f (step.Make _ _ _ _) = f
file_with_step i g f (step.Link _ _ _ _ _) = f
file_with_step i g f (step.Drop _ _ _) = f
file_with_step i g f (step.Rename _ _ _ _) = f
file_with_step i g f (step.List _ _ _) = f
file_with_step i g f (step.Get _ _ _) = f
file_with_step i g f (step.Stat _ _) = f
file_with_step i g f (step.Flush _ _) = f
file_with_step i g f (step.SeeInode _) = f
file_with_step i g f (step.SeeBlock _) = f

-- the file after an entry
abbrev pub after_entry : ℕ → ℕ → FileContent → Entry1 → FileContent
after_entry i g f e = if is_refused e.reply then f else file_with_step i g f e.step

-- the values of the file after these entries
unfoldable pub replay_of : List Entry1 → ℕ → ℕ → List Value
replay_of entries i g = (fold (after_entry i g) empty_file entries).values
