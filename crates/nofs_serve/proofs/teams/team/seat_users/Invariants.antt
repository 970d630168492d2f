use Rattle.std.proofs.Common.{◌≡◌, ◌+◌, ◌≤◌, ◌++◌, List, [], All, map, vec_len, vec_capacity}
use Rattle.nofs_turn.specs.Turn.{view_of, IsPassOf}
use Rattle.nofs_history.specs.declared.machine.callers.TheConstants.{MOST_USERS}
use Rattle.nofs_client.specs.Task.Commands.{AreWellFormed}
use Rattle.nofs_serve.specs.Teams.Users.{Stand, IsReady}
use Rattle.nofs_serve.proofs.teams.team.seat_users.Given as goal

abbrev pub invariant-loop-alloc : goal.invariant-loop-alloc
invariant-loop-alloc g l = record {
  few : vec_len l.plans ≤ MOST_USERS;
  formed : All (λ p. AreWellFormed p.commands) l.plans.items;
  count : vec_len l.passes + vec_len l.fn.plans ≡ vec_len l.fn.passes + vec_len l.plans;
  enough : vec_len l.plans ≤ vec_len l.passes;
  new : All (λ p. IsPassOf l.shared.turn p × ((view_of p).mine ≡ [])) l.passes.items;
  len : vec_len l.users + vec_len l.plans ≡ vec_len l.fn.plans;
  room : vec_len l.fn.plans ≤ vec_capacity l.users;
  ways : All (λ w. w.client.steps.steps.turn.now ≡ l.shared.turn) l.users.items;
  ready : (rest : List _) × (l.fn.plans.items ≡ l.plans.items ++ rest)
      × ((v : _) → All (λ p. view_of p ≡ v) l.fn.passes.items
      → Stand (IsReady (λ c way. (way.caller ≡ c) × (view_of way.pass ≡ v))) (1 + vec_len l.plans) (map
      (λ p. p.commands) rest) l.users.items
      × All (λ p. view_of p ≡ v) l.passes.items);
}

abbrev pub decreases-loop-alloc : goal.decreases-loop-alloc
decreases-loop-alloc g l = vec_len l.plans
