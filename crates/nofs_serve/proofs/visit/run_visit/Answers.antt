use Rattle.std.proofs.Common.{◌≡◌, ◌∙◌, ℕ, List, [], ap, subst}
use Rattle.nofs_turn.specs.declared.rule.view.View.{View}
use Rattle.nofs_turn.specs.Turn.{view_of}
use Rattle.nofs_history.specs.Steps.{Made}
use Rattle.nofs_history.specs.declared.machine.history.Entry1.{Entry1}
use Rattle.nofs_shared.specs.Passes.Entries.{own_steps}
use Rattle.nofs_shared.specs.Passes.Seats.{SameSeat}
use Rattle.nofs_serve.specs.Teams.Joins.{JoinsOwn}
use Rattle.nofs_serve.proofs.OnTeams.Beside.{all-worked}
use Rattle.nofs_serve.proofs.OnVisit.{visit-gathers}
use Rattle.nofs_serve.proofs.visit.run_visit.Goals as goal

pub returns-clause-gathered : goal.returns-clause-gathered
returns-clause-gathered g c v one none all =
    let s1 = c.seat-visit.ensures.seen v all in
    let went = c.work_beside.ensures.goes in
    let o : View Entry1 g.row.V-Fixed.Denot = view_of c.work_beside.new.steps.pass in
    let z : View Entry1 g.row.V-Fixed.Denot = view_of c.gather_beside-joined.result.pass in
    let caller1 : c.work_beside.new.steps.caller ≡ 1 = went.1 ∙ c.seat-visit.ensures.way.1 in
    let worked = all-worked g.V.Serves.room_in c.args.sweeps.inodes c.args.sweeps.blocks _ _ _ _ _ _ _ _ v _ _ _ _ _ _
    (c.seat_beside-beside.ensures.seen v s1.1) none c.seat_beside-beside.ensures.counts
    c.seat_beside-beside.ensures.callers c.work_beside.ensures.inodes c.work_beside.ensures.blocks
    c.work_beside.ensures.flusher.none_made c.work_beside.ensures.flusher.goes_on.2 in
    visit-gathers g.V.Serves.room_in (g.G.Visits.visited c.args.visitor.now c.work_beside.new.visitor [])
    c.args.sweeps.inodes c.args.sweeps.blocks c.gather_beside-joined.result.out_of_memory v z o
    (view_of c.join_way.new.into) one
    (c.gather_beside-joined.ensures.gathered v c.args.sweeps.inodes c.args.sweeps.blocks one worked.0 worked.1 worked.2)
    (subst (λ z. SameSeat z o) s1.0 went.2)
    (subst (λ (n : ℕ). JoinsOwn n z o (view_of c.join_way.new.into)) caller1 c.join_way.ensures.joined)
    (subst (λ (m : List Made). g.G.Visits.visited c.args.visitor.now c.work_beside.new.visitor m (own_steps o.mine))
    (ap (λ z. own_steps z.mine) s1.0 ∙ ap own_steps none) c.work_beside.ensures.visited)
