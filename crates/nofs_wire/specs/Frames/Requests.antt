-- The step that the body of a frame spells (docs/FORMAT.md, "Frames").
use Rattle.std.specs.Prelude.{ℕ, ◌+◌, List, length, take, drop, Bool, ◌==◌, ◌&&◌, nat_lt, nat_le, Option, Some, None}
use Rattle.std.specs.Prelude.{option_and_then, if◌then◌else◌}
use Rattle.std.specs.Prelude.{slice_index}
use Rattle.nofs_disk.specs.Number.{number_at}
use Rattle.nofs_inode.specs.declared.inode.FileKind.{FileKind}
use Rattle.nofs_inode.specs.declared.inode.FileKind.TheVariants.{File, Directory}
use Rattle.nofs_history.specs.declared.machine.steps.Step.{Step}
use Rattle.nofs_history.specs.declared.machine.steps.Step.TheVariants as step

-- a step, where its body ends where it should
abbrev pub where_ends : Bool → Step → Option Step
where_ends ends s = if ends then Some s else None

-- the number of bytes of the name at a place
abbrev pub name_length : ℕ → List ℕ → ℕ
name_length at body = slice_index body at

-- a name stands whole at a place: one byte for its length, and its bytes
abbrev pub has_name_field : ℕ → List ℕ → Bool
has_name_field at body = nat_lt at (length body) && nat_le (at + 1 + name_length at body) (length body)

-- the name at a place
unfoldable pub name_field : ℕ → List ℕ → Option (List ℕ)
name_field at body = if has_name_field at body then Some (take (name_length at body) (drop (at + 1) body)) else None

-- the kind of this number
unfoldable pub kind_numbered : ℕ → Option FileKind
kind_numbered n = if n == 1 then Some File else if n == 2 then Some Directory else None

-- every step but two begins with an inode number and a generation
abbrev pub inode_field : List ℕ → ℕ
inode_field body = number_at 4 1 body

abbrev pub generation_field : List ℕ → ℕ
generation_field body = number_at 8 5 body

-- the name alone
unfoldable pub look_request : List ℕ → List ℕ → Option Step
look_request name body =
    where_ends (length body == 14 + length name) (step.Look (inode_field body) (generation_field body) name)

-- behind the name the kind
unfoldable pub make_of : List ℕ → List ℕ → Option Step
make_of name body = option_and_then
    (λ kind. where_ends (length body == 15 + length name)
    (step.Make (inode_field body) (generation_field body) name kind))
    (kind_numbered (slice_index body (14 + length name)))

-- behind the name the inode number and the generation of the file
unfoldable pub link_of : List ℕ → List ℕ → Option Step
link_of name body = where_ends (length body == 26 + length name)
    (step.Link (inode_field body) (generation_field body) name (number_at 4 (14 + length name) body)
    (number_at 8 (18 + length name) body))

-- the name alone
unfoldable pub drop_of : List ℕ → List ℕ → Option Step
drop_of name body =
    where_ends (length body == 14 + length name) (step.Drop (inode_field body) (generation_field body) name)

-- behind the name the new one
unfoldable pub rename_of : List ℕ → List ℕ → Option Step
rename_of name body = option_and_then
    (λ new. where_ends (length body == 15 + length name + length new)
    (step.Rename (inode_field body) (generation_field body) name new))
    (name_field (14 + length name) body)

-- slot
unfoldable pub list_of : List ℕ → Option Step
list_of body =
    where_ends (length body == 21) (step.List (inode_field body) (generation_field body) (number_at 8 13 body))

-- slot
unfoldable pub get_of : List ℕ → Option Step
get_of body = where_ends (length body == 21) (step.Get (inode_field body) (generation_field body) (number_at 8 13 body))

-- slot, place in the slot, bytes to the end
unfoldable pub put_of : List ℕ → Option Step
put_of body = where_ends (nat_le 25 (length body))
    (step.Put (inode_field body) (generation_field body) (number_at 8 13 body) (number_at 4 21 body) (drop 25 body))

-- size
unfoldable pub resize_of : List ℕ → Option Step
resize_of body =
    where_ends (length body == 21) (step.Resize (inode_field body) (generation_field body) (number_at 8 13 body))

unfoldable pub stat_of : List ℕ → Option Step
stat_of body = where_ends (length body == 13) (step.Stat (inode_field body) (generation_field body))

unfoldable pub flush_of : List ℕ → Option Step
flush_of body = where_ends (length body == 13) (step.Flush (inode_field body) (generation_field body))

-- an inode number alone
unfoldable pub see_inode_of : List ℕ → Option Step
see_inode_of body = where_ends (length body == 5) (step.SeeInode (number_at 4 1 body))

-- a block number alone
unfoldable pub see_block_of : List ℕ → Option Step
see_block_of body = where_ends (length body == 9) (step.SeeBlock (number_at 8 1 body))

-- the steps whose name is this one
unfoldable pub named_of : ℕ → List ℕ → List ℕ → Option Step
named_of first name body =
    if first == 1 then look_request name body
    else if first == 2 then make_of name body
    else if first == 3 then link_of name body
    else if first == 4 then drop_of name body
    else if first == 5 then rename_of name body
    else None

-- the steps on what an inode number and a generation name
unfoldable pub handled_of : ℕ → List ℕ → Option Step
handled_of first body =
    if first == 6 then list_of body
    else if first == 7 then get_of body
    else if first == 8 then put_of body
    else if first == 9 then resize_of body
    else if first == 10 then stat_of body
    else if first == 11 then flush_of body
    else option_and_then (λ name. named_of first name body) (name_field 13 body)

-- the step of a body, by its first byte
unfoldable pub step_by : ℕ → List ℕ → Option Step
step_by first body =
    if first == 12 then see_inode_of body
    else if first == 13 then see_block_of body
    else if nat_lt (length body) 13 then None
    else handled_of first body

-- the step that a body spells to its last byte
unfoldable pub step_of : List ℕ → Option Step
step_of body = step_by (slice_index body 0) body
