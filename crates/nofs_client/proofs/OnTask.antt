-- How much of a command is left to do.
use Rattle.std.proofs.Common.{◌≡◌, ℕ, ◌+◌, ◌-◌, ◌^◌, ◌<◌, ◌≤◌, ◌++◌, min, List, [], length, nat_lt, Bool, true, false}
use Rattle.std.proofs.Common.{if◌then◌else◌, refl, arith, le_refl}
use Rattle.std.proofs.lemmas.Bool.Decides.{nat_tests}
use Rattle.nofs_inode.specs.declared.inode.FileKind.{FileKind}
use Rattle.nofs_inode.specs.declared.inode.FileKind.TheVariants as kind
use Rattle.nofs_history.specs.declared.machine.replies.Stat.{Stat}
use Rattle.nofs_history.specs.declared.machine.replies.Reply.{Reply}
use Rattle.nofs_history.specs.declared.machine.replies.Reply.TheVariants as reply
use Rattle.nofs_history.specs.declared.machine.replies.Refusal.{Refusal}
use Rattle.nofs_client.specs.declared.task.places.Handle.{Handle}
use Rattle.nofs_client.specs.declared.task.places.Location.{Location}
use Rattle.nofs_client.specs.declared.task.commands.Command.{Command}
use Rattle.nofs_client.specs.declared.task.commands.Command.TheVariants as command
use Rattle.nofs_client.specs.declared.task.lines.Line.TheVariants as line
use Rattle.nofs_client.specs.declared.task.next.Next.TheVariants.{Do}
use Rattle.nofs_client.specs.declared.task.lines.GotPart.{GotPart}
use Rattle.nofs_client.specs.declared.task.lines.ListPart.{ListPart}
use Rattle.nofs_client.specs.declared.task.state.Stage.{Stage}
use Rattle.nofs_client.specs.declared.task.state.Stage.TheVariants as stage
use Rattle.nofs_client.specs.declared.task.state.Task.{Task}
use Rattle.nofs_client.specs.declared.task.state.Task.TheVariants as task
use Rattle.nofs_client.specs.Task.Places.{first_handle, looks, new_looks}
use Rattle.nofs_client.specs.Task.State.{acting, arrived, arrived_new, first_stage, refused, TaskStands, IsActing}
use Rattle.nofs_client.specs.Task.State.{IsPutting, IsLinking, HasTwoPaths}
use Rattle.nofs_client.specs.Task.Steps.{act_of, put_slot_step, put_at, within_slot, task_asks, Answers}
use Rattle.nofs_client.specs.Task.Answers.{handle_of, got_here, looked, looked_new, acted, task_after_stat, getting}
use Rattle.nofs_client.specs.Task.Answers.{linked, next_stage, stored, after_put}
use Rattle.nofs_client.specs.Task.Answers.{after_get, listing, after_list, task_after}

-- a test with what it says
tested : (a b : ℕ) (P : Bool → Type 0) → (a < b → P true) → (b ≤ a → P false) → P (nat_lt a b)
tested a b P yes' no' =
    let Q : Bool → Type 0 = λ v. nat_lt a b ≡ v → P v in
    let k : Q (nat_lt a b) = elim (nat_lt a b) as Q
    [ true ↦ λ e. yes' (grind (arith, nat_tests)) | false ↦ λ e. no' (grind (arith, nat_tests)) ] in
    k refl

abbrev pub stage_rank : Stage → ℕ
stage_rank stage.Flush = 4
stage_rank stage.Link = 3
stage_rank stage.FlushAgain = 2
stage_rank stage.Drop = 1

-- at most so many steps after the names
abbrev pub act_rank : Command → ℕ
act_rank (command.Put path offset bytes) = length bytes
act_rank (command.Get path offset len) = 2 ^ 64
act_rank (command.List path) = 73
act_rank (command.Link path new_path) = 4
act_rank (command.Move from to) = 4
act_rank _ = 1

-- at most so many steps of a task, if there is always room
abbrev pub task_rank : Command → Task → ℕ
task_rank c (task.Looking place depth) = act_rank c + new_looks c + (looks c - depth)
task_rank c (task.LookingNew place to depth) = act_rank c + (new_looks c - depth)
task_rank c (task.Acting at) = act_rank c
task_rank c (task.Linking place to s) = stage_rank s
task_rank c (task.Putting at done) = act_rank c - done
task_rank c (task.Getting at from end parts) = end - from
task_rank c (task.Listing at slot parts) = 73 - slot
task_rank c (task.Ended line) = 0

arrived_new-rank : (c : Command) (place : Location) (to : Handle) (depth : ℕ) → HasTwoPaths c
    → task_rank c (arrived_new c place to depth) ≤ act_rank c + (new_looks c - depth)
arrived_new-rank (command.Link path new_path) place to depth two =
    let c = command.Link path new_path in
    let P : Bool → Type 0 = λ b. task_rank c
    (if b then task.LookingNew place to depth else task.Linking place to (first_stage c)) ≤ act_rank c +
    (new_looks c - depth) in
    tested depth (new_looks c) P (λ lt. le_refl _) (λ le. omega arith)
arrived_new-rank (command.Move from to') place to depth two =
    let c = command.Move from to' in
    let P : Bool → Type 0 = λ b. task_rank c
    (if b then task.LookingNew place to depth else task.Linking place to (first_stage c)) ≤ act_rank c +
    (new_looks c - depth) in
    tested depth (new_looks c) P (λ lt. le_refl _) (λ le. omega arith)
arrived_new-rank _ place to depth two = absurd two

acting-rank : (c : Command) (place : Location) → task_rank c (acting c place) ≤ act_rank c + new_looks c
acting-rank (command.Put path offset bytes) place = omega arith
acting-rank (command.List path) place = omega arith
acting-rank (command.Link path new_path) place =
    let h = arrived_new-rank (command.Link path new_path) place (first_handle new_path) 0 tt in omega arith
acting-rank (command.Move from to) place =
    let h = arrived_new-rank (command.Move from to) place (first_handle to) 0 tt in omega arith
acting-rank _ place = omega arith

arrived-rank : (c : Command) (place : Location) (depth : ℕ)
    → task_rank c (arrived c place depth) ≤ act_rank c + new_looks c + (looks c - depth)
arrived-rank c place depth =
    let P : Bool → Type 0 = λ b. task_rank c (if b then task.Looking place depth else acting c place)
    ≤ act_rank c + new_looks c + (looks c - depth) in
    tested depth (looks c) P (λ lt. le_refl _) (λ le. (let h = acting-rank c place in omega arith))

pub refused-rank : (c : Command) (n : ℕ) (r : Refusal) → task_rank c (refused c n r) ≡ 0
refused-rank (command.Put path offset bytes) n r = refl
refused-rank _ n r = refl

looked-falls : (c : Command) (place : Location) (depth : ℕ) (r : Reply) → depth < looks c
    → Answers (task_asks c (task.Looking place depth)) r
    → task_rank c (looked c place depth r) < act_rank c + new_looks c + (looks c - depth)
looked-falls c place depth (reply.Found found) lt h =
    let k = arrived-rank c (record { directory = place.found; found = handle_of found }) (depth + 1) in omega arith
looked-falls c place depth (reply.Refused r) lt h = let k = refused-rank c 0 r in omega arith
looked-falls c place depth _ lt h = absurd h.0

looked_new-falls : (c : Command) (place : Location) (to : Handle) (depth : ℕ) (r : Reply) → HasTwoPaths c
    → depth < new_looks c
    → Answers (task_asks c (task.LookingNew place to depth)) r
    → task_rank c (looked_new c place to depth r) < act_rank c + (new_looks c - depth)
looked_new-falls c place to depth (reply.Found found) two lt h =
    let k = arrived_new-rank c place (handle_of found) (depth + 1) two in omega arith
looked_new-falls c place to depth (reply.Refused r) two lt h = let k = refused-rank c 0 r in omega arith
looked_new-falls c place to depth _ two lt h = absurd h.0

getting-rank : (c : Command) (at : Handle) (from end : ℕ) (parts : List GotPart)
    → task_rank c (getting at from end parts) ≤ end - from
getting-rank c at from end parts =
    let P : Bool → Type 0 =
    λ b. task_rank c (if b then task.Getting at from end parts else task.Ended (line.Got parts)) ≤ end - from in
    tested from end P (λ lt. le_refl _) (λ le. omega arith)

sized-rank : (c : Command) (at : Handle) (offset len : ℕ) (stat : Stat) (k : FileKind)
    → task_rank c (task_after_stat at offset len stat k) < 2 ^ 64
sized-rank c at offset len stat kind.Directory = omega arith
sized-rank c at offset len stat kind.File =
    let h = getting-rank c at offset (min (min (offset + len) (2 ^ 64 - 1)) stat.size) [] in omega arith

acted-falls : (c : Command) (at : Handle) (r : Reply) → IsActing c → Answers (Do (act_of c at)) r
    → task_rank c (acted c at r) < act_rank c
acted-falls (command.Make path) at (reply.Made i g) acts h = omega arith
acted-falls (command.Make path) at (reply.Refused r) acts h = omega arith
acted-falls (command.Make path) at _ acts h = absurd h.0
acted-falls (command.MakeDirectory path) at (reply.Made i g) acts h = omega arith
acted-falls (command.MakeDirectory path) at (reply.Refused r) acts h = omega arith
acted-falls (command.MakeDirectory path) at _ acts h = absurd h.0
acted-falls (command.Size path size) at reply.Resized acts h = omega arith
acted-falls (command.Size path size) at (reply.Refused r) acts h = omega arith
acted-falls (command.Size path size) at _ acts h = absurd h.0
acted-falls (command.Stat path) at (reply.Stat stat) acts h = omega arith
acted-falls (command.Stat path) at (reply.Refused r) acts h = omega arith
acted-falls (command.Stat path) at _ acts h = absurd h.0
acted-falls (command.Drop path) at (reply.Dropped removed) acts h = omega arith
acted-falls (command.Drop path) at (reply.Refused r) acts h = omega arith
acted-falls (command.Drop path) at _ acts h = absurd h.0
acted-falls (command.Rename path name) at reply.Renamed acts h = omega arith
acted-falls (command.Rename path name) at (reply.Refused r) acts h = omega arith
acted-falls (command.Rename path name) at _ acts h = absurd h.0
acted-falls (command.Fsync path) at reply.Flushed acts h = omega arith
acted-falls (command.Fsync path) at (reply.Refused r) acts h = omega arith
acted-falls (command.Fsync path) at _ acts h = absurd h.0
acted-falls (command.Get path offset len) at (reply.Stat stat) acts h =
    sized-rank (command.Get path offset len) at offset len stat stat.kind
acted-falls (command.Get path offset len) at (reply.Refused r) acts h = omega arith
acted-falls (command.Get path offset len) at _ acts h = absurd h.0
acted-falls (command.Put path offset bytes) at r acts h = absurd acts
acted-falls (command.List path) at r acts h = absurd acts
acted-falls (command.Link path new_path) at r acts h = absurd acts
acted-falls (command.Move from to) at r acts h = absurd acts

next_stage-falls : (c : Command) (place : Location) (to : Handle) (s : Stage) → IsLinking c s
    → task_rank c (next_stage c place to s) < stage_rank s
next_stage-falls (command.Link path new_path) place to stage.Link is = omega arith
next_stage-falls (command.Move from to') place to stage.Flush is = omega arith
next_stage-falls (command.Move from to') place to stage.Link is = omega arith
next_stage-falls (command.Move from to') place to stage.FlushAgain is = omega arith
next_stage-falls (command.Move from to') place to stage.Drop is = omega arith
next_stage-falls _ place to _ is = absurd is

stage-pos : (s : Stage) → 0 < stage_rank s
stage-pos stage.Flush = omega arith
stage-pos stage.Link = omega arith
stage-pos stage.FlushAgain = omega arith
stage-pos stage.Drop = omega arith

linked-falls : (c : Command) (place : Location) (to : Handle) (s : Stage) (r : Reply) → IsLinking c s
    → task_rank c (linked c place to s r) < stage_rank s
linked-falls c place to s (reply.Refused r) is = let k = refused-rank c 0 r in let pos = stage-pos s in omega arith
linked-falls c place to s _ is = next_stage-falls c place to s is

stored-falls : (c : Command) (at : Handle) (done : ℕ) → IsPutting c done
    → task_rank c (stored c at done) < act_rank c - done
stored-falls (command.Put path offset bytes) at done lt =
    let next = done + within_slot (put_at offset done) (length bytes - done) in
    let P : Bool → Type 0 = λ b. task_rank (command.Put path offset bytes)
    (if b then task.Putting at next else task.Ended (line.Put (length bytes)))
    < length bytes - done in
    tested next (length bytes) P (λ l. omega arith) (λ l. omega arith)
stored-falls _ at done lt = absurd lt

put-room : (c : Command) (done : ℕ) → IsPutting c done → 0 < act_rank c - done
put-room (command.Put path offset bytes) done lt = omega arith
put-room _ done lt = absurd lt

put-falls : (c : Command) (at : Handle) (done : ℕ) (r : Reply) → IsPutting c done
    → Answers (Do (put_slot_step c at done)) r
    → task_rank c (after_put c at done r) < act_rank c - done
put-falls c at done reply.Stored lt h = stored-falls c at done lt
put-falls c at done (reply.Refused r) lt h = let k = refused-rank c done r in
    let room = put-room c done lt in omega arith
put-falls (command.Put path offset bytes) at done _ lt h = absurd h.0
put-falls _ at done _ lt h = absurd lt

le_lt : {a b k : ℕ} → a ≤ b → b < k → a < k
le_lt p q = omega arith

get-falls : (c : Command) (at : Handle) (from end : ℕ) (parts : List GotPart) (r : Reply) → from < end
    → Answers (task_asks c (task.Getting at from end parts)) r
    → task_rank c (after_get at from end parts r) < end - from
get-falls c at from end parts (reply.Bytes bytes) lt h =
    le_lt (getting-rank c at (from + got_here from end) end _) (omega arith)
get-falls c at from end parts reply.Hole lt h = le_lt (getting-rank c at (from + got_here from end) end _) (omega arith)
get-falls c at from end parts reply.Lost lt h = le_lt (getting-rank c at (from + got_here from end) end _) (omega arith)
get-falls c at from end parts (reply.Refused r) lt h = omega arith
get-falls c at from end parts _ lt h = absurd h.0

listing-rank : (c : Command) (at : Handle) (asked slot : ℕ) (parts more : List ListPart) → asked ≤ 72
    → task_rank c (listing at asked slot parts more) < 73 - asked
listing-rank c at asked slot parts more le =
    let P : Bool → Type 0 = λ b. task_rank c
    (if b then task.Ended (line.Names parts) else task.Listing at (slot + 1) (parts ++ more)) < 73 - asked in
    tested slot asked P (λ l. omega arith) (λ l. omega arith)

list-falls : (c : Command) (at : Handle) (slot : ℕ) (parts : List ListPart) (r : Reply) → slot ≤ 72
    → Answers (task_asks c (task.Listing at slot parts)) r → task_rank c (after_list at slot parts r) < 73 - slot
list-falls c at slot parts (reply.Names k names) le h = listing-rank c at slot k parts _ le
list-falls c at slot parts (reply.LostNames k) le h = listing-rank c at slot k parts _ le
list-falls c at slot parts reply.NoMore le h = omega arith
list-falls c at slot parts (reply.Refused r) le h = omega arith
list-falls c at slot parts _ le h = absurd h.0

-- less is left of a task after each reply
pub task-falls : (c : Command) (t : Task) (r : Reply) → TaskStands c t → Answers (task_asks c t) r
    → task_rank c (task_after c t r) < task_rank c t
task-falls c (task.Looking place depth) r stands h = looked-falls c place depth r stands h
task-falls c (task.LookingNew place to depth) r stands h = looked_new-falls c place to depth r stands.0 stands.1 h
task-falls c (task.Acting at) r stands h = acted-falls c at r stands h
task-falls c (task.Linking place to s) r stands h = linked-falls c place to s r stands
task-falls c (task.Putting at done) r stands h = put-falls c at done r stands h
task-falls c (task.Getting at from end parts) r stands h = get-falls c at from end parts r stands.0 h
task-falls c (task.Listing at slot parts) r stands h = list-falls c at slot parts r stands h
task-falls c (task.Ended line) r stands h = absurd h
