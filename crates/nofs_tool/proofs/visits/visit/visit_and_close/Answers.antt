use Rattle.std.proofs.Common.{◌≡◌, ◌||◌, not, [], ap, sym, ◌∙◌, subst}
use Rattle.nofs_tool.specs.Visits.Visit.{IsVisitRun}
use Rattle.nofs_tool.proofs.OnVisits.Visit.{visit-closed}
use Rattle.nofs_tool.proofs.visits.visit.visit_and_close.Goals as goal
use Rattle.nofs_tool.proofs.visits.visit.visit_and_close.Goals.{then-out_of_memory, else-out_of_memory}

pub returns-clause-ran : goal.returns-clause-ran
returns-clause-ran g c =
    let at = c.args.mount.core.books.at in
    let out = c.visit-mount.result.out_of_memory in
    let closed = c.close-closed.result in
    let adds = c.close-closed.ensures.adds in
    let V = g.G.Visits.visited c.args.visitor.now c.visit-mount.new.visitor [] in
    let all = c.close-closed.new.mount.core.books.history.entries in
    let short : (out || not closed) ≡ c.if-out_of_memory.result = elim c.if-out_of_memory.branch [
      | then-out_of_memory w ↦ ap (λ b. b || not closed) w.if-out_of_memory.true
          ∙ (sym w.if-out_of_memory.true ∙ sym w.result-is)
      | else-out_of_memory w ↦ ap (λ b. b || not closed) w.if-out_of_memory.false ∙ sym w.result-is
    ] in
    subst (λ b. IsVisitRun V at.inodes at.blocks b all) short
    (visit-closed V at.inodes at.blocks out closed _ _ all adds.0 c.requires.new
    c.visit-mount.ensures.served (c.visit-mount.ensures.swept c.requires.new) adds.1 adds.2)
