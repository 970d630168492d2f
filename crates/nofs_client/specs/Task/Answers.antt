-- Where a command stands after the reply to its step, as if there were always room.
use Rattle.std.specs.Prelude.{ℕ, ◌+◌, ◌-◌, ◌%◌, ◌^◌, ◌++◌, List, [], ◌∷◌, length, take, drop, map, min, nat_lt}
use Rattle.std.specs.Prelude.{if◌then◌else◌}
use Rattle.nofs_inode.specs.declared.inode.FileKind.{FileKind}
use Rattle.nofs_inode.specs.declared.inode.FileKind.TheVariants as kind
use Rattle.nofs_history.specs.declared.machine.replies.Found.{Found}
use Rattle.nofs_history.specs.declared.machine.replies.Refusal.TheVariants as refusal
use Rattle.nofs_history.specs.declared.machine.replies.Reply.{Reply}
use Rattle.nofs_history.specs.declared.machine.replies.Reply.TheVariants as reply
use Rattle.nofs_history.specs.declared.machine.replies.Stat.{Stat}
use Rattle.nofs_client.specs.declared.task.commands.Command.{Command}
use Rattle.nofs_client.specs.declared.task.commands.Command.TheVariants as command
use Rattle.nofs_client.specs.declared.task.lines.GotPart.{GotPart}
use Rattle.nofs_client.specs.declared.task.lines.GotPart.TheVariants as got
use Rattle.nofs_client.specs.declared.task.lines.Line.TheVariants as line
use Rattle.nofs_client.specs.declared.task.lines.ListPart.{ListPart}
use Rattle.nofs_client.specs.declared.task.lines.ListPart.TheVariants as listed
use Rattle.nofs_client.specs.declared.task.places.Handle.{Handle}
use Rattle.nofs_client.specs.declared.task.places.Location.{Location}
use Rattle.nofs_client.specs.declared.task.state.Stage.{Stage}
use Rattle.nofs_client.specs.declared.task.state.Stage.TheVariants as stage
use Rattle.nofs_client.specs.declared.task.state.Task.{Task}
use Rattle.nofs_client.specs.declared.task.state.Task.TheVariants as task
use Rattle.nofs_client.specs.Task.State.{arrived, arrived_new, refused}
use Rattle.nofs_client.specs.Task.Steps.{put_at, within_slot}

-- the file or directory that a Look found
abbrev pub handle_of : Found → Handle
handle_of found = record { inode = found.inode; generation = found.generation }

-- after a Look of the path
abbrev pub looked : Command → Location → ℕ → Reply → Task
looked c place depth (reply.Found found) =
    arrived c (record { directory = place.found; found = handle_of found }) (depth + 1)
looked c place depth (reply.Refused r) = refused c 0 r
looked c place depth _ = task.Looking place depth

-- after a Look of the new path
abbrev pub looked_new : Command → Location → Handle → ℕ → Reply → Task
looked_new c place to depth (reply.Found found) = arrived_new c place (handle_of found) (depth + 1)
looked_new c place to depth (reply.Refused r) = refused c 0 r
looked_new c place to depth _ = task.LookingNew place to depth

-- the bytes up to the end are got
abbrev pub getting : Handle → ℕ → ℕ → List GotPart → Task
getting at from end parts = if nat_lt from end then task.Getting at from end parts else task.Ended (line.Got parts)

-- what a Stat tells a get: a directory has no bytes, and a file only those below its size
abbrev pub task_after_stat : Handle → ℕ → ℕ → Stat → FileKind → Task
task_after_stat at offset len stat kind.Directory = task.Ended (line.Refused refusal.IsDirectory)
task_after_stat at offset len stat kind.File = getting at offset (min (min (offset + len) (2 ^ 64 - 1)) stat.size) []

-- after the one step of a command
abbrev pub acted : Command → Handle → Reply → Task
acted c at (reply.Refused r) = refused c 0 r
acted (command.Make path) at (reply.Made inode generation) = task.Ended line.Made
acted (command.MakeDirectory path) at (reply.Made inode generation) = task.Ended line.Made
acted (command.Get path offset len) at (reply.Stat stat) = task_after_stat at offset len stat stat.kind
acted (command.Size path size) at reply.Resized = task.Ended (line.Sized size)
acted (command.Stat path) at (reply.Stat stat) = task.Ended (line.Stat stat)
acted (command.Drop path) at (reply.Dropped removed) = task.Ended line.Dropped
acted (command.Rename path name) at reply.Renamed = task.Ended line.Renamed
acted (command.Fsync path) at reply.Flushed = task.Ended line.Synced
-- no other reply fits: each task falls by one that does
acted c at _ = task.Acting at

-- the next stage of a move; a link ends with its only one
abbrev pub next_stage : Command → Location → Handle → Stage → Task
next_stage (command.Link path new_path) place to s = task.Ended line.Linked
next_stage c place to stage.Flush = task.Linking place to stage.Link
next_stage c place to stage.Link = task.Linking place to stage.FlushAgain
next_stage c place to stage.FlushAgain = task.Linking place to stage.Drop
next_stage c place to stage.Drop = task.Ended line.Moved

-- after a step of a link or a move
abbrev pub linked : Command → Location → Handle → Stage → Reply → Task
linked c place to s (reply.Refused r) = refused c 0 r
linked c place to s (reply.Found found) = next_stage c place to s
linked c place to s (reply.Made inode generation) = next_stage c place to s
linked c place to s reply.Linked = next_stage c place to s
linked c place to s (reply.Dropped removed) = next_stage c place to s
linked c place to s reply.Renamed = next_stage c place to s
linked c place to s (reply.Names slot names) = next_stage c place to s
linked c place to s (reply.LostNames slot) = next_stage c place to s
linked c place to s reply.NoMore = next_stage c place to s
linked c place to s (reply.Bytes bytes) = next_stage c place to s
linked c place to s reply.Hole = next_stage c place to s
linked c place to s reply.Lost = next_stage c place to s
linked c place to s reply.Stored = next_stage c place to s
linked c place to s reply.Resized = next_stage c place to s
linked c place to s (reply.Stat stat) = next_stage c place to s
linked c place to s reply.Flushed = next_stage c place to s
linked c place to s (reply.Seen used) = next_stage c place to s

-- so many bytes are stored
abbrev pub stored : Command → Handle → ℕ → Task
stored (command.Put path offset bytes) at done =
    let next = done + within_slot (put_at offset done) (length bytes - done) in
    if nat_lt next (length bytes) then task.Putting at next else task.Ended (line.Put (length bytes))
-- no other command puts
stored (command.Make path) at done = task.Ended (line.Put done)
stored (command.MakeDirectory path) at done = task.Ended (line.Put done)
stored (command.Get path offset len) at done = task.Ended (line.Put done)
stored (command.Size path size) at done = task.Ended (line.Put done)
stored (command.Stat path) at done = task.Ended (line.Put done)
stored (command.List path) at done = task.Ended (line.Put done)
stored (command.Link path new_path) at done = task.Ended (line.Put done)
stored (command.Drop path) at done = task.Ended (line.Put done)
stored (command.Rename path name) at done = task.Ended (line.Put done)
stored (command.Fsync path) at done = task.Ended (line.Put done)
stored (command.Move from to) at done = task.Ended (line.Put done)

-- after a Put
abbrev pub after_put : Command → Handle → ℕ → Reply → Task
after_put c at done reply.Stored = stored c at done
after_put c at done (reply.Refused r) = refused c done r
after_put c at done _ = task.Putting at done

-- how many of the bytes to be got lie in the next slot
abbrev pub got_here : ℕ → ℕ → ℕ
got_here from end = within_slot (from % 1024) (end - from)

-- after a Get
abbrev pub after_get : Handle → ℕ → ℕ → List GotPart → Reply → Task
after_get at from end parts (reply.Bytes bytes) =
    getting at (from + got_here from end) end
    (parts ++ got.Bytes (take (got_here from end) (drop (from % 1024) bytes)) ∷ [])
after_get at from end parts reply.Hole =
    getting at (from + got_here from end) end (parts ++ got.Hole (got_here from end) ∷ [])
after_get at from end parts reply.Lost =
    getting at (from + got_here from end) end (parts ++ got.Lost (got_here from end) ∷ [])
after_get at from end parts (reply.Refused r) = task.Ended (line.Refused r)
after_get at from end parts _ = task.Getting at from end parts

-- the slots after the one answered are listed; an answer below the slot asked ends the list and is no part of it
abbrev pub listing : Handle → ℕ → ℕ → List ListPart → List ListPart → Task
listing at asked slot parts more = if nat_lt slot asked then task.Ended (line.Names parts)
    else task.Listing at (slot + 1) (parts ++ more)

-- after a List
abbrev pub after_list : Handle → ℕ → List ListPart → Reply → Task
after_list at asked parts (reply.Names slot names) = listing at asked slot parts (map listed.Name names)
after_list at asked parts (reply.LostNames slot) = listing at asked slot parts (listed.Lost slot ∷ [])
after_list at asked parts reply.NoMore = task.Ended (line.Names parts)
after_list at asked parts (reply.Refused r) = task.Ended (line.Refused r)
after_list at asked parts _ = task.Listing at asked parts

-- a task after the reply to its step
abbrev pub task_after : Command → Task → Reply → Task
task_after c (task.Looking place depth) r = looked c place depth r
task_after c (task.LookingNew place to depth) r = looked_new c place to depth r
task_after c (task.Acting at) r = acted c at r
task_after c (task.Linking place to s) r = linked c place to s r
task_after c (task.Putting at done) r = after_put c at done r
task_after c (task.Getting at from end parts) r = after_get at from end parts r
task_after c (task.Listing at slot parts) r = after_list at slot parts r
task_after c (task.Ended line) r = task.Ended line
