use Rattle.std.proofs.Common.{rules, ◌∙◌, ◌<◌, ◌≤◌, length, map, ap, subst, arith}
use Rattle.nofs_turn.specs.Turn.{view_of}
use Rattle.nofs_history.specs.declared.machine.callers.TheConstants.{MOST_USERS}
use Rattle.nofs_shared.specs.Passes.Entries.{own_steps}
use Rattle.nofs_shared.specs.Passes.Seats.{SameSeat}
use Rattle.nofs_serve.proofs.OnTeams.Beside.{all-worked}
use Rattle.nofs_serve.proofs.OnTeams.Gathered.{length-scripts}
use Rattle.nofs_serve.proofs.OnTeams.Users.{stand-run}
use Rattle.nofs_serve.proofs.OnSession.{team-gathers}
use Rattle.nofs_serve.proofs.teams.team.run_team.Goals as goal

pub gather_users-requires-clause-ways : goal.gather_users-requires-clause-ways
gather_users-requires-clause-ways g c k d h =
    let within : k < length c.seat_users-users.result.items =
    (let n = c.work_team.ensures.len in omega (arith, h, n)) in
    (c.work_team.ensures.users k d within).goes_on.0 ∙ c.seat_users-users.ensures.ways k d within

pub returns-clause-gathered : goal.returns-clause-gathered
returns-clause-gathered g c v one none all =
    let ready = c.seat_users-users.ensures.ready v all in
    let seen = c.seat_beside-beside.ensures.seen v ready.1 in
    let inodes = c.work_team.ensures.inodes in
    let blocks = c.work_team.ensures.blocks in
    let flushed = c.work_team.ensures.flusher in
    let worked = all-worked g.V.Serves.room_in c.args.sweeps.inodes c.args.sweeps.blocks _ _ _ _ _ _ _ _ v _ _ _ _ _ _
    seen none c.seat_beside-beside.ensures.counts c.seat_beside-beside.ensures.callers inodes blocks flushed.none_made
    flushed.goes_on.2 in
    team-gathers g.V.Serves.room_in (map (λ x. x.commands) c.args.plans.items)
    c.args.sweeps.inodes c.args.sweeps.blocks c.gather_beside-pass.result.out_of_memory
    c.gather_users.result.out_of_memory c.gather_users.result.ended_early.items c.gather_users.result.lines.items v
    (view_of c.gather_beside-pass.result.pass)
    (view_of c.gather_users.result.pass)
    (let n = length-scripts (λ x. x.commands) c.args.plans.items in
    let few : length c.args.plans.items ≤ MOST_USERS = search rules in omega (arith, n, few))
    (c.gather_beside-pass.ensures.gathered v c.args.sweeps.inodes c.args.sweeps.blocks one worked.0 worked.1 worked.2)
    (λ absent three. c.gather_users.ensures.gathered v (map (λ x. x.commands) c.args.plans.items) 3 one absent three
    (stand-run 1 (map (λ x. x.commands) c.args.plans.items)
    c.seat_users-users.result.items c.work_team.new.users.items ready.0 c.work_team.ensures.users
    c.work_team.ensures.len
    (λ k a b new goes. (goes.1 ∙ new.0, subst (λ z. SameSeat z (view_of b.pass)) new.1 goes.2))
    (λ k a new. ap (λ z. own_steps z.mine) new.1 ∙ ap own_steps none)))
