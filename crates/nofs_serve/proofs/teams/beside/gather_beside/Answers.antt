use Rattle.std.proofs.Common.{◌≡◌, ◌∙◌, ◌-◌, ℕ, true, ap, subst}
use Rattle.nofs_turn.specs.declared.rule.view.View.{View}
use Rattle.nofs_turn.specs.Turn.{view_of}
use Rattle.nofs_history.specs.declared.machine.callers.TheConstants.{BLOCK_SWEEPER, FLUSHER, INODE_SWEEPER}
use Rattle.nofs_history.specs.declared.machine.history.Entry1.{Entry1}
use Rattle.nofs_shared.specs.Passes.Entries.{all_by}
use Rattle.nofs_serve.specs.Teams.Joins.{JoinsOwn}
use Rattle.nofs_serve.proofs.OnTeams.Beside.{beside-gathers}
use Rattle.nofs_serve.proofs.teams.beside.gather_beside.Goals as goal

pub returns-clause-gathered : goal.returns-clause-gathered
returns-clause-gathered g c v inodes blocks one up down idle =
    let F = g.row.V-Fixed.Denot in
    let p : View Entry1 F = view_of c.args.beside.inodes.steps.pass in
    let w : View Entry1 F = view_of c.args.beside.blocks.steps.pass in
    let f : View Entry1 F = view_of c.args.beside.flusher.steps.pass in
    let caller9 : c.into_inner.result.caller ≡ INODE_SWEEPER =
    ap (λ s. s.caller) c.into_inner.ensures ∙ c.requires.callers.0 in
    let caller10 : c.into_inner-2.result.caller ≡ BLOCK_SWEEPER =
    ap (λ s. s.caller) c.into_inner-2.ensures ∙ c.requires.callers.1 in
    let caller11 : c.into_inner-3.result.caller ≡ FLUSHER =
    ap (λ s. s.caller) c.into_inner-3.ensures ∙ c.requires.callers.2 in
    let p_is : view_of c.back-pass.result ≡ p = ap (λ x. view_of x) c.back-pass.ensures.same
    ∙ ap (λ s. view_of s.pass) c.into_inner.ensures in
    let w_is : view_of c.into_inner-2.result.pass ≡ w = ap (λ s. view_of s.pass) c.into_inner-2.ensures in
    let f_is : view_of c.into_inner-3.result.pass ≡ f = ap (λ s. view_of s.pass) c.into_inner-3.ensures in
    beside-gathers g.V.Serves.room_in inodes blocks c.args.beside.inodes.out_of_memory
    c.args.beside.blocks.out_of_memory c.either-out_of_memory.result v p w (view_of c.join_way.new.into) f
    (view_of c.join_way-2.new.into) one up
    (subst (λ (x : ℕ × View Entry1 F). all_by x.0 x.1.mine ≡ true)
    (λ i. (caller9 i, p_is i)) c.back-pass.ensures.own)
    down
    (subst (λ (x : ℕ × View Entry1 F × View Entry1 F). JoinsOwn x.0 x.1 x.2 (view_of c.join_way.new.into))
    (λ i. (caller10 i, p_is i, w_is i)) c.join_way.ensures.joined)
    idle
    (subst (λ (x : ℕ × View Entry1 F). JoinsOwn x.0 (view_of c.join_way.new.into) x.1 (view_of c.join_way-2.new.into))
    (λ i. (caller11 i, f_is i)) c.join_way-2.ensures.joined)
    c.either-out_of_memory.ensures
