-- Files that stand whole in memory, as files of the machine, and how they change.
use Rattle.std.specs.Prelude.{ℕ, true, ◌+◌, ◌-◌, ◌%◌, min, ◌&&◌, not, nat_le, ◌++◌, take, unwrap_or, ◌==◌, List, Bool}
use Rattle.std.specs.Prelude.{false, Option}
use Rattle.std.specs.Prelude.{Some, None, if◌then◌else◌, nat_lt, slice_get}
use Rattle.nofs_ptrs.specs.Paths.{slot_limit}
use Rattle.nofs_model.specs.Files.{Absent, FileState, Files}
use Rattle.nofs_model.specs.declared.image.value.Value.{Value}
use Rattle.nofs_model.specs.declared.image.value.Value.TheVariants as value
use Rattle.nofs_history.specs.Meta.{is_bytes}
use Rattle.nofs_history.specs.Machine.{slots_in, zero_bytes, bytes_in, entry_has_name, is_paired, trimmed_value}
use Rattle.nofs_history.specs.declared.accepted.files.file.ValueNow.{ValueNow}
use Rattle.nofs_history.specs.declared.accepted.files.file.ValueNow.TheVariants as now
use Rattle.nofs_history.specs.declared.accepted.files.file.FileNow.{FileNow}
use Rattle.nofs_history.specs.declared.accepted.files.file.FilesNow.{FilesNow}

-- the value of a slot, as it stands in memory
abbrev pub value_now : ValueNow → Value
value_now now.Hole = value.Hole
value_now (now.Bytes bytes) = value.Bytes bytes.value
value_now now.Lost = value.Lost

-- a slot behind the last one kept is a hole
abbrev pub value_at : Option ValueNow → Value
value_at None = value.Hole
value_at (Some it) = value_now it

-- a file with these values; its blocks of pointers are not kept
abbrev pub file_of : FileNow → FileState
file_of f = record {
  generation = f.generation;
  kind = f.kind;
  size = f.size;
  links = f.links;
  values = λ k. value_at (slice_get f.values.items k);
  nodes = λ path. Absent;
}

-- an inode's file, where one is kept
abbrev pub file_at : Option (Option FileNow) → Option FileState
file_at None = None
file_at (Some None) = None
file_at (Some (Some f)) = Some (file_of f)

-- inodes are counted from 1
abbrev pub kept_files_of : FilesNow → Files
kept_files_of F i = if i == 0 then None else file_at (slice_get F.files.items (i - 1))

-- what is kept of a file: not its blocks of pointers, and nothing past the 4,168 slots that a file can have
abbrev pub kept_file : Option FileState → Option FileState
kept_file None = None
kept_file (Some f) = Some (record {
  generation = f.generation;
  kind = f.kind;
  size = f.size;
  links = f.links;
  values = λ k. if nat_lt k slot_limit then f.values k else value.Hole;
  nodes = λ path. Absent;
})

-- what is kept of files
abbrev pub kept_files : Files → Files
kept_files F i = kept_file (F i)

-- these files with another one, or none, at inode i
abbrev pub with_file : Files → ℕ → Option FileState → Files
with_file F i o j = if i == j then o else F j

-- whether the inode has a file of this generation
abbrev pub has_generation : Files → ℕ → ℕ → Bool
has_generation F i g = elim (F i) [ None ↦ false | Some f ↦ f.generation == g ]

-- whether a name stands in an entry of a directory, and leads to a file there or to none, as is asked
abbrev pub leads : Files → ℕ → List ℕ → Bool → ℕ → Bool
leads F d name true e = entry_has_name F d name e && is_paired F d e
leads F d name false e = entry_has_name F d name e && not (is_paired F d e)

-- a file with a value in slot k
abbrev pub with_value : FileState → ℕ → Value → FileState
with_value f k v = record f { values = λ l. if k == l then v else f.values l }

-- what a file's new size gives to slot k, by the value that stands there
abbrev pub resized_value : ℕ → ℕ → Value → ℕ → Option Value
resized_value old size v k =
    let m : ℕ = min (slots_in old) (slots_in size) in
    if nat_le m k then (if nat_lt k slot_limit then Some value.Hole else None) else
    (if nat_le old size && ((k + 1 == m) && (not (old % 1024 == 0) && is_bytes v))
    then Some (value.Bytes (take (old % 1024) (bytes_in v) ++ zero_bytes (1024 - old % 1024))) else None)

-- a file of another size
abbrev pub resized_file : FileState → ℕ → FileState
resized_file f size =
    record f { size = size; values = λ k. unwrap_or (resized_value f.size size (f.values k) k) (f.values k) }

-- the value of slot k with zeros behind the old end, where a file of m slots does not shrink
abbrev pub end_value : ℕ → ℕ → ℕ → ℕ → Value → Value
end_value old size m k v = if nat_le old size && ((k + 1 == m) && not (old % 1024 == 0))
    then trimmed_value (old % 1024) v else v
