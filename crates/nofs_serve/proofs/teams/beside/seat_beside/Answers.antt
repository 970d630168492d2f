use Rattle.std.proofs.Common.{◌≡◌, ◌∙◌, ap}
use Rattle.nofs_turn.specs.Turn.{view_of}
use Rattle.nofs_serve.proofs.teams.beside.seat_beside.Goals as goal

pub returns-clause-seen : goal.returns-clause-seen
returns-clause-seen g c v all =
    let first = c.seat-way.ensures.seen v all in
    let second = c.seat-way-2.ensures.seen v first.1 in
    let third = c.seat-way-3.ensures.seen v second.1 in
    let up : view_of c.new-inodes.result.steps.pass ≡ v = ap (λ s. view_of s.pass) c.new-inodes.ensures.0 ∙ first.0 in
    let down : view_of c.new-blocks.result.steps.pass ≡ v =
    ap (λ s. view_of s.pass) c.new-blocks.ensures.0 ∙ second.0 in
    let out : view_of c.new-flusher.result.steps.pass ≡ v =
    ap (λ s. view_of s.pass) c.new-flusher.ensures.0 ∙ third.0 in
    (up, down, out)
