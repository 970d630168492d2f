-- The next step of a command, as if there were always room, and what answers it.
use Rattle.std.specs.Prelude.{ℕ, List, false, ◌≡◌, ◌+◌, ◌-◌, ◌/◌, ◌%◌, length, take, drop, min, Some, None}
use Rattle.std.specs.declared.option.Option.{Option}
use Rattle.nofs_inode.specs.declared.inode.FileKind.TheVariants as kind
use Rattle.nofs_history.specs.Steps.{Fits, is_out_of_memory}
use Rattle.nofs_history.specs.declared.machine.replies.Reply.{Reply}
use Rattle.nofs_history.specs.declared.machine.steps.Step.{Step}
use Rattle.nofs_history.specs.declared.machine.steps.Step.TheVariants as step
use Rattle.nofs_client.specs.declared.task.commands.Command.{Command}
use Rattle.nofs_client.specs.declared.task.commands.Command.TheVariants as command
use Rattle.nofs_client.specs.declared.task.next.Next.{Next}
use Rattle.nofs_client.specs.declared.task.next.Next.TheVariants.{Do, Say}
use Rattle.nofs_client.specs.declared.task.places.Handle.{Handle}
use Rattle.nofs_client.specs.declared.task.places.Location.{Location}
use Rattle.nofs_client.specs.declared.task.state.Stage.{Stage}
use Rattle.nofs_client.specs.declared.task.state.Stage.TheVariants as stage
use Rattle.nofs_client.specs.declared.task.state.Task.{Task}
use Rattle.nofs_client.specs.declared.task.state.Task.TheVariants as task
use Rattle.nofs_client.specs.Task.Commands.{IsWellFormed}
use Rattle.nofs_client.specs.Task.State.{TaskStands}
use Rattle.nofs_client.specs.Task.Places.{command_path, new_path_of, name_at, last_name}

-- a name is looked up in a directory
abbrev pub look_in : Handle → List ℕ → Step
look_in at name = step.Look at.inode at.generation name

-- the one step of a command
abbrev pub act_of : Command → Handle → Step
act_of (command.Make path) at = step.Make at.inode at.generation (last_name path) kind.File
act_of (command.MakeDirectory path) at = step.Make at.inode at.generation (last_name path) kind.Directory
act_of (command.Get path offset len) at = step.Stat at.inode at.generation
act_of (command.Size path size) at = step.Resize at.inode at.generation size
act_of (command.Stat path) at = step.Stat at.inode at.generation
act_of (command.Drop path) at = step.Drop at.inode at.generation (last_name path)
act_of (command.Rename path name) at = step.Rename at.inode at.generation (last_name path) name
act_of (command.Fsync path) at = step.Flush at.inode at.generation
-- the others have steps of their own: they never stand here
act_of (command.Put path offset bytes) at = step.Flush at.inode at.generation
act_of (command.List path) at = step.Flush at.inode at.generation
act_of (command.Link path new_path) at = step.Flush at.inode at.generation
act_of (command.Move from to) at = step.Flush at.inode at.generation

-- the steps of a link and of a move
abbrev pub stage_step : Command → Location → Handle → Stage → Step
stage_step c place to stage.Flush = step.Flush place.found.inode place.found.generation
stage_step c place to stage.Link =
    step.Link to.inode to.generation (last_name (new_path_of c)) place.found.inode place.found.generation
stage_step c place to stage.FlushAgain = step.Flush place.found.inode place.found.generation
stage_step c place to stage.Drop =
    step.Drop place.directory.inode place.directory.generation (last_name (command_path c))

-- the slot of the byte of a put after so many
abbrev pub put_slot : ℕ → ℕ → ℕ
put_slot offset done = offset / 1024 + (offset % 1024 + done) / 1024

-- the place of that byte in its slot
abbrev pub put_at : ℕ → ℕ → ℕ
put_at offset done = (offset % 1024 + done) % 1024

-- how many of the bytes that are left lie in the slot where the first of them is
abbrev pub within_slot : ℕ → ℕ → ℕ
within_slot at rest = min (1024 - at) rest

-- the bytes of a put that lie in the next slot
abbrev pub put_slot_step : Command → Handle → ℕ → Step
put_slot_step (command.Put path offset bytes) at done =
    step.Put at.inode at.generation (put_slot offset done) (put_at offset done)
    (take (within_slot (put_at offset done) (length bytes - done)) (drop done bytes))
-- no other command puts
put_slot_step (command.Make path) at done = step.Flush at.inode at.generation
put_slot_step (command.MakeDirectory path) at done = step.Flush at.inode at.generation
put_slot_step (command.Get path offset len) at done = step.Flush at.inode at.generation
put_slot_step (command.Size path size) at done = step.Flush at.inode at.generation
put_slot_step (command.Stat path) at done = step.Flush at.inode at.generation
put_slot_step (command.List path) at done = step.Flush at.inode at.generation
put_slot_step (command.Link path new_path) at done = step.Flush at.inode at.generation
put_slot_step (command.Drop path) at done = step.Flush at.inode at.generation
put_slot_step (command.Rename path name) at done = step.Flush at.inode at.generation
put_slot_step (command.Fsync path) at done = step.Flush at.inode at.generation
put_slot_step (command.Move from to) at done = step.Flush at.inode at.generation

-- the next step of a task, or its line
abbrev pub task_asks : Command → Task → Next
task_asks c (task.Looking place depth) = Do (look_in place.found (name_at (command_path c) depth))
task_asks c (task.LookingNew place to depth) = Do (look_in to (name_at (new_path_of c) depth))
task_asks c (task.Acting at) = Do (act_of c at)
task_asks c (task.Linking place to s) = Do (stage_step c place to s)
task_asks c (task.Putting at done) = Do (put_slot_step c at done)
task_asks c (task.Getting at from end parts) = Do (step.Get at.inode at.generation (from / 1024))
task_asks c (task.Listing at slot parts) = Do (step.List at.inode at.generation slot)
task_asks c (task.Ended line) = Say line

-- the command has its line
abbrev pub IsSaid : Next → Type 0
IsSaid (Do s) = ⊥
IsSaid (Say line) = Unit {0}

-- the next step where there is one
abbrev pub IsAsked : Next → Option Step → Type 0
IsAsked next (Some s) = next ≡ Do s
IsAsked next None = IsSaid next

-- a reply answers what was asked
abbrev pub Answers : Next → Reply → Type 0
Answers (Do s) r = Fits s r × (is_out_of_memory r ≡ false)
Answers (Say line) r = ⊥

-- a well formed command, its task and the reply to the task's step
pub record IsAnsweredTask (c : Command) (t : Task) (r : Reply) : Type 0 where
  pub formed : IsWellFormed c
  pub stands : TaskStands c t
  pub fits : Answers (task_asks c t) r
