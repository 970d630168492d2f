-- What a command does next, by the replies so far, and the steps that make room.
use Rattle.std.specs.Prelude.{◌≡◌, ℕ, List, [], ◌∷◌, fold, nat_lt, ◌&&◌, Bool, if◌then◌else◌, Some, None}
use Rattle.std.specs.declared.option.Option.{Option}
use Rattle.nofs_history.specs.declared.machine.replies.Refusal.{Refusal}
use Rattle.nofs_history.specs.declared.machine.replies.Refusal.TheVariants as refusal
use Rattle.nofs_history.specs.declared.machine.replies.Reply.{Reply}
use Rattle.nofs_history.specs.declared.machine.replies.Reply.TheVariants as reply
use Rattle.nofs_history.specs.declared.machine.steps.Step.{Step}
use Rattle.nofs_history.specs.declared.machine.steps.Step.TheVariants as step
use Rattle.nofs_client.specs.declared.task.commands.Command.{Command}
use Rattle.nofs_client.specs.declared.task.next.Next.{Next}
use Rattle.nofs_client.specs.declared.task.next.Next.TheVariants.{Do}
use Rattle.nofs_client.specs.declared.progress.Progress.{Progress}
use Rattle.nofs_client.specs.declared.progress.See.{See}
use Rattle.nofs_client.specs.declared.progress.See.TheVariants as see
use Rattle.nofs_client.specs.declared.task.state.Task.{Task}
use Rattle.nofs_client.specs.declared.task.state.Task.TheVariants as task
use Rattle.nofs_client.specs.Task.State.{TaskStands, first_task, refused}
use Rattle.nofs_client.specs.Task.Steps.{Answers, task_asks}
use Rattle.nofs_client.specs.Task.Answers.{task_after}

-- a task of which no step was answered Full or InodesFull yet
abbrev pub fresh_progress : Task → Progress
fresh_progress t = record { task = t; full = None; inodes = None; see = None }

-- where a command begins
abbrev pub start_of : Command → Progress
start_of c = fresh_progress (first_task c)

-- what is examined before a step is repeated
abbrev pub step_before_repeat : See → Step
step_before_repeat (see.Block block) = step.SeeBlock block
step_before_repeat (see.Inode inode) = step.SeeInode inode

-- an examination comes before the step of the task
abbrev pub asks_beside : Option See → Next → Next
asks_beside None next = next
asks_beside (Some s) next = Do (step_before_repeat s)

-- the next step of a command, or its line
abbrev pub asks : Command → Progress → Next
asks c p = asks_beside p.see (task_asks c p.task)

-- it goes on: something is unverified, and this is the first such reply to this step, or less is unverified than at the
-- last
abbrev pub goes_on : ℕ → Option ℕ → Bool
goes_on unverified None = nat_lt 0 unverified
goes_on unverified (Some last) = nat_lt 0 unverified && nat_lt unverified last

-- a step of the task was answered for good
abbrev pub step_answered : Command → Progress → Reply → Progress
step_answered c p r = fresh_progress (task_after c p.task r)

-- a block is examined before the step is repeated
abbrev pub examines_block : Progress → ℕ → ℕ → Progress
examines_block p unverified next =
    record { task = p.task; full = Some unverified; inodes = p.inodes; see = Some (see.Block next) }

-- an inode is examined before the step is repeated
abbrev pub examines_inode : Progress → ℕ → ℕ → Progress
examines_inode p unverified next =
    record { task = p.task; full = p.full; inodes = Some unverified; see = Some (see.Inode next) }

-- after a step of the task that was refused
abbrev pub after_refused : Command → Progress → Refusal → Progress
after_refused c p (refusal.Full needed free unverified next) =
    if goes_on unverified p.full then examines_block p unverified next
    else step_answered c p (reply.Refused (refusal.Full needed free unverified next))
after_refused c p (refusal.InodesFull unverified next) =
    if goes_on unverified p.inodes then examines_inode p unverified next
    else step_answered c p (reply.Refused (refusal.InodesFull unverified next))
-- any other refusal is no want of room
after_refused c p r = step_answered c p (reply.Refused r)

-- after a step of the task
abbrev pub after_step : Command → Progress → Reply → Progress
after_step c p (reply.Refused r) = after_refused c p r
after_step c p r = step_answered c p r

-- how many bytes a put has stored
abbrev pub stored_by : Task → ℕ
stored_by (task.Putting at done) = done
stored_by (task.Looking place depth) = 0
stored_by (task.LookingNew place to depth) = 0
stored_by (task.Acting at) = 0
stored_by (task.Linking place to s) = 0
stored_by (task.Getting at from end parts) = 0
stored_by (task.Listing at slot parts) = 0
stored_by (task.Ended line) = 0

-- after an examination: the step is repeated
abbrev pub after_see : Command → Progress → Reply → Progress
after_see c p (reply.Refused r) = fresh_progress (refused c (stored_by p.task) r)
-- any other reply ends the examination
after_see c p _ = record { task = p.task; full = p.full; inodes = p.inodes; see = None }

-- the reply is that to an examination, or to the step of the task
abbrev pub after_beside : Option See → Command → Progress → Reply → Progress
after_beside None c p r = after_step c p r
after_beside (Some s) c p r = after_see c p r

-- where a command stands after a reply
abbrev pub progress_after : Command → Progress → Reply → Progress
progress_after c p r = after_beside p.see c p r

-- where a command stands after these replies
abbrev pub progress : Command → List Reply → Progress
progress c replies = fold (progress_after c) (start_of c) replies

-- the next step of a command after these replies, or its line
unfoldable pub drive_of : Command → List Reply → Next
drive_of c replies = asks c (progress c replies)

-- where a command stands next is this, and its task stands
pub record StandsAs (c : Command) (wanted next : Progress) : Type 0 where
  pub is : next ≡ wanted
  pub stands : TaskStands c next.task

-- each reply answers the step that is asked for after the replies before it
abbrev pub AllAnswer : Command → Progress → List Reply → Type 0
AllAnswer c p [] = Unit {0}
AllAnswer c p (r ∷ rs) = Answers (asks c p) r × AllAnswer c (progress_after c p r) rs
