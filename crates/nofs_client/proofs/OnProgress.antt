-- How much of a command is left to do, with the steps that make room.
use Rattle.std.proofs.Common.{◌≡◌, ℕ, zero, suc, ◌+◌, ◌*◌, ◌^◌, ◌<◌, Bool, true, false, if◌then◌else◌, Option, Some}
use Rattle.std.proofs.Common.{None, refl, arith}
use Rattle.std.proofs.lemmas.Bool.Decides.{nat_tests}
use Rattle.nofs_history.specs.declared.machine.replies.Reply.{Reply}
use Rattle.nofs_history.specs.declared.machine.replies.Reply.TheVariants as reply
use Rattle.nofs_history.specs.declared.machine.replies.Refusal.{Refusal}
use Rattle.nofs_history.specs.declared.machine.replies.Refusal.TheVariants as refusal
use Rattle.nofs_client.specs.declared.task.commands.Command.{Command}
use Rattle.nofs_client.specs.declared.task.next.Next.{Next}
use Rattle.nofs_client.specs.declared.task.next.Next.TheVariants.{Do, Say}
use Rattle.nofs_client.specs.declared.progress.Progress.{Progress}
use Rattle.nofs_client.specs.declared.progress.See.{See}
use Rattle.nofs_client.specs.Task.State.{TaskStands}
use Rattle.nofs_client.specs.Task.Steps.{task_asks, Answers}
use Rattle.nofs_client.specs.Progress.{asks, goes_on, step_answered, examines_block, examines_inode, stored_by}
use Rattle.nofs_client.specs.Progress.{progress_after, after_refused}
use Rattle.nofs_client.specs.Progress.{after_step, after_see, after_beside, asks_beside}
use Rattle.nofs_client.proofs.OnTask.{task_rank, task-falls, refused-rank}

-- how often a reply of one kind may still come to a step
abbrev pub room : Option ℕ → ℕ
room None = 2 ^ 64
room (Some last) = last

abbrev pub see_rank : Option See → ℕ
see_rank None = 0
see_rank (Some s) = 1

abbrev pub weight : ℕ → ℕ → ℕ → ℕ
weight zero extra s = s
weight (suc t) extra s = (t + 1) * 2 ^ 70 + 2 * extra + s

abbrev pub rank : Command → Progress → ℕ
rank c p = weight (task_rank c p.task) (room p.full + room p.inodes) (see_rank p.see)

-- a task with less left weighs less, whatever stands beside it
weight-falls : (t' t extra s : ℕ) → t' < t → weight t' (2 ^ 64 + 2 ^ 64) 0 < weight t extra s
weight-falls zero zero extra s lt = absurd (omega arith)
weight-falls zero (suc t) extra s lt = omega arith
weight-falls (suc t') zero extra s lt = absurd (omega arith)
weight-falls (suc t') (suc t) extra s lt = omega arith

-- the same task, with less beside it
weight-beside : (t more less s : ℕ) → 0 < t → less < more → weight t less 1 < weight t more s
weight-beside zero more less s pos lt = absurd (omega arith)
weight-beside (suc t) more less s pos lt = omega arith

weight-see : (t extra : ℕ) → weight t extra 0 < weight t extra 1
weight-see zero extra = omega arith
weight-see (suc t) extra = omega arith

weight-pos : (t extra : ℕ) → 0 < weight t extra 1
weight-pos zero extra = omega arith
weight-pos (suc t) extra = omega arith

room-falls : (unverified : ℕ) (last : Option ℕ)
    → unverified < 2 ^ 64 → goes_on unverified last ≡ true → unverified < room last
room-falls unverified None small e = small
room-falls unverified (Some last) small e = grind (arith, nat_tests)

small-full : (n : Next) (needed free unverified next : ℕ)
    → Answers n (reply.Refused (refusal.Full needed free unverified next)) → unverified < 2 ^ 64
small-full (Do s) needed free unverified next h = h.0
small-full (Say l) needed free unverified next h = absurd h

small-inodes : (n : Next) (unverified next : ℕ) → Answers n (reply.Refused (refusal.InodesFull unverified next))
    → unverified < 2 ^ 64
small-inodes (Do s) unverified next h = h.0.0
small-inodes (Say l) unverified next h = absurd h

refused-falls : (c : Command) (p : Progress) (r : Refusal) → TaskStands c p.task
    → Answers (task_asks c p.task) (reply.Refused r)
    → rank c (after_refused c p r) < rank c p
refused-falls c p (refusal.Full needed free unverified next) stands h =
    let falls = task-falls c p.task (reply.Refused (refusal.Full needed free unverified next)) stands h in
    let big : 0 < task_rank c p.task = omega arith in
    let small = small-full (task_asks c p.task) needed free unverified next h in
    let P : Bool → Type 0 = λ b. goes_on unverified p.full ≡ b →
    rank c (if b then examines_block p unverified next
    else step_answered c p (reply.Refused (refusal.Full needed free unverified next))) < rank c p in
    let k : P (goes_on unverified p.full) = elim (goes_on unverified p.full) as P [
      | true ↦ λ e. weight-beside (task_rank c p.task) (room p.full + room p.inodes) (unverified + room p.inodes)
          (see_rank p.see) big
          (let f = room-falls unverified p.full small e in omega arith)
      | false ↦ λ e. weight-falls _ _ (room p.full + room p.inodes) (see_rank p.see) falls
    ] in
    k refl
refused-falls c p (refusal.InodesFull unverified next) stands h =
    let falls = task-falls c p.task (reply.Refused (refusal.InodesFull unverified next)) stands h in
    let big : 0 < task_rank c p.task = omega arith in
    let small = small-inodes (task_asks c p.task) unverified next h in
    let P : Bool → Type 0 = λ b. goes_on unverified p.inodes ≡ b →
    rank c (if b then examines_inode p unverified next
    else step_answered c p (reply.Refused (refusal.InodesFull unverified next))) < rank c p in
    let k : P (goes_on unverified p.inodes) = elim (goes_on unverified p.inodes) as P [
      | true ↦ λ e. weight-beside (task_rank c p.task) (room p.full + room p.inodes) (room p.full + unverified)
          (see_rank p.see) big
          (let f = room-falls unverified p.inodes small e in omega arith)
      | false ↦ λ e. weight-falls _ _ (room p.full + room p.inodes) (see_rank p.see) falls
    ] in
    k refl
refused-falls c p r stands h =
    weight-falls _ _ (room p.full + room p.inodes) (see_rank p.see) (task-falls c p.task (reply.Refused r) stands h)

step-falls : (c : Command) (p : Progress) (r : Reply) → TaskStands c p.task → Answers (task_asks c p.task) r
    → rank c (after_step c p r) < rank c p
step-falls c p (reply.Refused r) stands h = refused-falls c p r stands h
step-falls c p r stands h =
    weight-falls _ _ (room p.full + room p.inodes) (see_rank p.see) (task-falls c p.task r stands h)

see-falls : (c : Command) (p : Progress) (s : See) (r : Reply) → p.see ≡ Some s → rank c (after_see c p r) < rank c p
see-falls c p s (reply.Refused r) e =
    let none = refused-rank c (stored_by p.task) r in
    rw (e, none) (weight-pos (task_rank c p.task) (room p.full + room p.inodes))
see-falls c p s r e = rw e (weight-see (task_rank c p.task) (room p.full + room p.inodes))

falls-at : (c : Command) (p : Progress) (o : Option See) (r : Reply) → p.see ≡ o → TaskStands c p.task
    → Answers (asks_beside o (task_asks c p.task)) r
    → rank c (after_beside o c p r) < rank c p
falls-at c p None r e stands h = step-falls c p r stands h
falls-at c p (Some s) r e stands h = see-falls c p s r e

-- less is left of a command after each reply
pub rank-falls : (c : Command) (p : Progress) (r : Reply) → TaskStands c p.task → Answers (asks c p) r
    → rank c (progress_after c p r) < rank c p
rank-falls c p r stands h = falls-at c p p.see r refl stands h
