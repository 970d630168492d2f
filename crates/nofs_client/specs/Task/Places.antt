-- Which names a command looks up, and where it begins.
use Rattle.std.specs.Prelude.{ℕ, ◌-◌, List, [], length, slice_get, unwrap_or}
use Rattle.nofs_client.specs.declared.task.places.Handle.{Handle}
use Rattle.nofs_client.specs.declared.task.commands.Path.{Path}
use Rattle.nofs_client.specs.declared.task.commands.Path.TheVariants.{Label, Names}
use Rattle.nofs_client.specs.declared.task.commands.Command.{Command}
use Rattle.nofs_client.specs.declared.task.commands.Command.TheVariants as command
use Rattle.nofs_client.specs.Task.Commands.{names_of}

-- where the first name is looked up: the label file, or the root
abbrev pub first_handle : Path → Handle
first_handle Label = record { inode = 2; generation = 2 }
first_handle (Names names) = record { inode = 1; generation = 1 }

-- one name of a path
abbrev pub name_at : Path → ℕ → List ℕ
name_at path at = unwrap_or (slice_get (names_of path) at) []

-- the last name of a path
abbrev pub last_name : Path → List ℕ
last_name path = name_at path (length (names_of path) - 1)

-- the path of a command, of two the first
abbrev pub command_path : Command → Path
command_path (command.Make path) = path
command_path (command.MakeDirectory path) = path
command_path (command.Put path offset bytes) = path
command_path (command.Get path offset len) = path
command_path (command.Size path size) = path
command_path (command.Stat path) = path
command_path (command.List path) = path
command_path (command.Link path new_path) = path
command_path (command.Drop path) = path
command_path (command.Rename path name) = path
command_path (command.Fsync path) = path
command_path (command.Move from to) = from

-- the path of a command, of two the second
abbrev pub new_path_of : Command → Path
new_path_of (command.Link path new_path) = new_path
new_path_of (command.Move from to) = to
-- the others have one path
new_path_of (command.Make path) = path
new_path_of (command.MakeDirectory path) = path
new_path_of (command.Put path offset bytes) = path
new_path_of (command.Get path offset len) = path
new_path_of (command.Size path size) = path
new_path_of (command.Stat path) = path
new_path_of (command.List path) = path
new_path_of (command.Drop path) = path
new_path_of (command.Rename path name) = path
new_path_of (command.Fsync path) = path

-- how many names of its path a command looks up: all, but for a step in the directory all but the last
abbrev pub looks : Command → ℕ
looks (command.Make path) = length (names_of path) - 1
looks (command.MakeDirectory path) = length (names_of path) - 1
looks (command.Drop path) = length (names_of path) - 1
looks (command.Rename path name) = length (names_of path) - 1
looks (command.Put path offset bytes) = length (names_of path)
looks (command.Get path offset len) = length (names_of path)
looks (command.Size path size) = length (names_of path)
looks (command.Stat path) = length (names_of path)
looks (command.List path) = length (names_of path)
looks (command.Link path new_path) = length (names_of path)
looks (command.Fsync path) = length (names_of path)
looks (command.Move from to) = length (names_of from)

-- how many names of its new path a command looks up: all but the last
abbrev pub new_looks : Command → ℕ
new_looks c = length (names_of (new_path_of c)) - 1
