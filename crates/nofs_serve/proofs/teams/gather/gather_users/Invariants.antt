use Rattle.std.proofs.Common.{◌≡◌, ℕ, ◌+◌, ◌≤◌, ◌++◌, List, [], All, length, vec_len, vec_capacity}
use Rattle.nofs_turn.specs.Turn.{view_of, IsPassOf}
use Rattle.nofs_client.specs.declared.task.commands.Command.{Command}
use Rattle.nofs_shared.specs.Passes.Entries.{own_steps}
use Rattle.nofs_shared.specs.Passes.Seats.{SameSeat}
use Rattle.nofs_serve.specs.Teams.Joins.{Gathers, made_by}
use Rattle.nofs_serve.specs.Teams.Users.{Stand, HasRun}
use Rattle.nofs_serve.specs.Session.{UsersGathered}
use Rattle.nofs_serve.proofs.teams.gather.gather_users.Given as goal

abbrev pub invariant-loop-user : goal.invariant-loop-user
invariant-loop-user g l = record {
  of : IsPassOf l.shared.turn l.whole.pass;
  ways : All (λ w. w.client.steps.steps.turn.now ≡ l.shared.turn) l.users.items;
  room : (vec_len l.whole.lines + vec_len l.users ≤ vec_capacity l.whole.lines)
      × (vec_len l.whole.ended_early + vec_len l.users ≤ vec_capacity l.whole.ended_early);
  gathered : (v : _) (scripts : List (List Command)) (count : ℕ) → v.stands ≡ 1
      → ((c : ℕ) → 1 ≤ c → c ≤ length scripts → made_by c (view_of l.fn.begun.pass) ≡ [])
      → Gathers v (view_of l.fn.begun.pass) count
      → Stand (HasRun (λ c way. (way.caller ≡ c) × SameSeat v (view_of way.pass)) (λ way. own_steps
      (view_of way.pass).mine))
      1 scripts l.fn.users.items
      → (done : List (List Command)) × (rest : List (List Command)) × (scripts ≡ done ++ rest)
      × Stand (HasRun (λ c way. (way.caller ≡ c) × SameSeat v (view_of way.pass)) (λ way. own_steps
      (view_of way.pass).mine))
      (1 + length done) rest l.users.items
      × Gathers v (view_of l.whole.pass) (count + length done)
      × UsersGathered done l.fn.begun.out_of_memory l.whole.out_of_memory l.whole.ended_early.items l.whole.lines.items
      (view_of l.fn.begun.pass) (view_of l.whole.pass);
}

abbrev pub decreases-loop-user : goal.decreases-loop-user
decreases-loop-user g l = vec_len l.users
