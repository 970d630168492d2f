-- Which commands a session can have.
use Rattle.std.specs.Prelude.{ℕ, ◌<◌, ◌==◌, Bool, false, not, List, [], length}
use Rattle.std.specs.List.{AllByRecursion}
use Rattle.nofs_client.specs.declared.task.commands.Path.{Path}
use Rattle.nofs_client.specs.declared.task.commands.Path.TheVariants.{Label, Names}
use Rattle.nofs_client.specs.declared.task.commands.Command.{Command}
use Rattle.nofs_client.specs.declared.task.commands.Command.TheVariants as command

-- the names of a path, from the root on
abbrev pub names_of : Path → List (List ℕ)
names_of Label = []
names_of (Names names) = names

-- whether the path has a last name
abbrev pub has_last_name : Path → Bool
has_last_name Label = false
has_last_name (Names names) = not (length names == 0)

-- the path can name an entry of a directory
abbrev pub HasName : Path → Type 0
HasName path = 0 < length (names_of path)

-- each path that is to name an entry has a name, and a put has a byte
abbrev pub IsWellFormed : Command → Type 0
IsWellFormed (command.Make path) = HasName path
IsWellFormed (command.MakeDirectory path) = HasName path
IsWellFormed (command.Put path offset bytes) = 0 < length bytes
IsWellFormed (command.Link path new_path) = HasName new_path
IsWellFormed (command.Drop path) = HasName path
IsWellFormed (command.Rename path name) = HasName path
IsWellFormed (command.Move from to) = HasName from × HasName to
IsWellFormed (command.Get path offset len) = Unit {0}
IsWellFormed (command.Size path size) = Unit {0}
IsWellFormed (command.Stat path) = Unit {0}
IsWellFormed (command.List path) = Unit {0}
IsWellFormed (command.Fsync path) = Unit {0}

-- each command of a user is well formed
abbrev pub AreWellFormed : List Command → Type 0
AreWellFormed commands = AllByRecursion IsWellFormed commands
