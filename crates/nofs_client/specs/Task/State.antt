-- Where a command can stand, apart from the steps that make room.
use Rattle.std.specs.Prelude.{ℕ, ◌<◌, ◌≤◌, ◌^◌, [], length, nat_lt, if◌then◌else◌}
use Rattle.nofs_history.specs.declared.machine.replies.Refusal.{Refusal}
use Rattle.nofs_client.specs.declared.task.commands.Command.{Command}
use Rattle.nofs_client.specs.declared.task.commands.Command.TheVariants as command
use Rattle.nofs_client.specs.declared.task.lines.Line.TheVariants as line
use Rattle.nofs_client.specs.declared.task.places.Handle.{Handle}
use Rattle.nofs_client.specs.declared.task.places.Location.{Location}
use Rattle.nofs_client.specs.declared.task.state.Stage.{Stage}
use Rattle.nofs_client.specs.declared.task.state.Stage.TheVariants as stage
use Rattle.nofs_client.specs.declared.task.state.Task.{Task}
use Rattle.nofs_client.specs.declared.task.state.Task.TheVariants as task
use Rattle.nofs_client.specs.Task.Places.{first_handle, command_path, looks, new_looks}

-- a link only links; a move makes the file durable first
abbrev pub first_stage : Command → Stage
first_stage (command.Link path new_path) = stage.Link
-- the others have no stages
first_stage (command.Make path) = stage.Flush
first_stage (command.MakeDirectory path) = stage.Flush
first_stage (command.Put path offset bytes) = stage.Flush
first_stage (command.Get path offset len) = stage.Flush
first_stage (command.Size path size) = stage.Flush
first_stage (command.Stat path) = stage.Flush
first_stage (command.List path) = stage.Flush
first_stage (command.Drop path) = stage.Flush
first_stage (command.Rename path name) = stage.Flush
first_stage (command.Fsync path) = stage.Flush
first_stage (command.Move from to) = stage.Flush

-- so many names of the new path are looked up
abbrev pub arrived_new : Command → Location → Handle → ℕ → Task
arrived_new c place to depth = if nat_lt depth (new_looks c) then task.LookingNew place to depth
    else task.Linking place to (first_stage c)

-- the names of the path are looked up
abbrev pub acting : Command → Location → Task
acting (command.Put path offset bytes) place = task.Putting place.found 0
acting (command.List path) place = task.Listing place.found 0 []
acting (command.Link path new_path) place = arrived_new (command.Link path new_path) place (first_handle new_path) 0
acting (command.Move from to) place = arrived_new (command.Move from to) place (first_handle to) 0
acting (command.Make path) place = task.Acting place.found
acting (command.MakeDirectory path) place = task.Acting place.found
acting (command.Get path offset len) place = task.Acting place.found
acting (command.Size path size) place = task.Acting place.found
acting (command.Stat path) place = task.Acting place.found
acting (command.Drop path) place = task.Acting place.found
acting (command.Rename path name) place = task.Acting place.found
acting (command.Fsync path) place = task.Acting place.found

-- so many names of the path are looked up
abbrev pub arrived : Command → Location → ℕ → Task
arrived c place depth = if nat_lt depth (looks c) then task.Looking place depth else acting c place

-- nothing is looked up yet
abbrev pub first_task : Command → Task
first_task c = arrived c (record { directory = first_handle (command_path c); found = first_handle (command_path c) }) 0

-- the line of a refused step; that of a put tells how many bytes were stored
abbrev pub refused : Command → ℕ → Refusal → Task
refused (command.Put path offset bytes) stored r = task.Ended (line.RefusedPut r stored)
refused (command.Make path) stored r = task.Ended (line.Refused r)
refused (command.MakeDirectory path) stored r = task.Ended (line.Refused r)
refused (command.Get path offset len) stored r = task.Ended (line.Refused r)
refused (command.Size path size) stored r = task.Ended (line.Refused r)
refused (command.Stat path) stored r = task.Ended (line.Refused r)
refused (command.List path) stored r = task.Ended (line.Refused r)
refused (command.Link path new_path) stored r = task.Ended (line.Refused r)
refused (command.Drop path) stored r = task.Ended (line.Refused r)
refused (command.Rename path name) stored r = task.Ended (line.Refused r)
refused (command.Fsync path) stored r = task.Ended (line.Refused r)
refused (command.Move from to) stored r = task.Ended (line.Refused r)

-- one step does what the command asks
abbrev pub IsActing : Command → Type 0
IsActing (command.Put path offset bytes) = ⊥
IsActing (command.List path) = ⊥
IsActing (command.Link path new_path) = ⊥
IsActing (command.Move from to) = ⊥
IsActing (command.Make path) = Unit {0}
IsActing (command.MakeDirectory path) = Unit {0}
IsActing (command.Get path offset len) = Unit {0}
IsActing (command.Size path size) = Unit {0}
IsActing (command.Stat path) = Unit {0}
IsActing (command.Drop path) = Unit {0}
IsActing (command.Rename path name) = Unit {0}
IsActing (command.Fsync path) = Unit {0}

-- the command has a new path beside its path
abbrev pub HasTwoPaths : Command → Type 0
HasTwoPaths (command.Link path new_path) = Unit {0}
HasTwoPaths (command.Move from to) = Unit {0}
HasTwoPaths _ = ⊥

-- the command can be at this stage: a link only links
abbrev pub IsLinking : Command → Stage → Type 0
IsLinking (command.Link path new_path) stage.Link = Unit {0}
IsLinking (command.Move from to) s = Unit {0}
IsLinking _ _ = ⊥

-- bytes are left to put
abbrev pub IsPutting : Command → ℕ → Type 0
IsPutting (command.Put path offset bytes) done = done < length bytes
IsPutting _ done = ⊥

-- where a command can stand
abbrev pub TaskStands : Command → Task → Type 0
TaskStands c (task.Looking place depth) = depth < looks c
TaskStands c (task.LookingNew place to depth) = HasTwoPaths c × (depth < new_looks c)
TaskStands c (task.Acting at) = IsActing c
TaskStands c (task.Linking place to s) = IsLinking c s
TaskStands c (task.Putting at done) = IsPutting c done
TaskStands c (task.Getting at from end parts) = (from < end) × (end < 2 ^ 64)
TaskStands c (task.Listing at slot parts) = slot ≤ 72
TaskStands c (task.Ended line) = Unit {0}
