use Rattle.std.proofs.Common.{true, [], inl, refl, sym, ap, subst}
use denote.Param.{param}
use denote.Exit.{no}
use mir.Syntax.{of_param}
use denote.Param.Send.{Quiet-if}
use Rattle.nofs_shared.proofs.OnMount.Threads.{evidence-send, mount-send}
use Rattle.nofs_tool.proofs.OnSession.Serve.{swept-by}
use Rattle.nofs_tool.proofs.OnVisits.Visit.{visit-none}
use Rattle.nofs_tool.proofs.visits.visit.visit.Goals as goal

pub returns-in-Err-clause-served : goal.returns-in-Err-clause-served
returns-in-Err-clause-served g c =
    let at = c.args.mount.core.books.at in
    let same = c.in-Err.ensures.unvisited in
    let none : g.G.Visits.visited c.args.visitor.now c.attend.new.visitor [] [] =
    subst (λ (v : g.row.G.Denot). g.G.Visits.visited c.args.visitor.now v [] []) (sym same.1)
    (g.G.Visits.visited_none c.args.visitor.now [] c.requires) in
    visit-none (g.G.Visits.visited c.args.visitor.now c.attend.new.visitor []) at.inodes at.blocks true _ _
    (ap (λ m. m.core.books.history.entries) same.0)
    refl none

pub returns-in-Err-clause-swept : goal.returns-in-Err-clause-swept
returns-in-Err-clause-swept g c = λ new. inl (ap (λ m. m.core.books.history.entries) c.in-Err.ensures.unvisited.0)

pub returns-in-Ok-clause-swept : goal.returns-in-Ok-clause-swept
returns-in-Ok-clause-swept g c = λ new.
    swept-by _ c.args.mount.core.books.at _ _ _ c.numbers-at.ensures.is new refl c.in-Ok.ensures.sweeps

pub attend-requires-send-V-Evidence : goal.attend-requires-send-V-Evidence
attend-requires-send-V-Evidence g c κs within =
    let m = evidence-send (param 1 g.row.D) g.D.Disk in
    record { owned = m.owned; leaving = λ k. Quiet-if (k (of_param 4)) _ _ (m.leaving no) (λ x w. tt) }

pub attend-requires-send-V : goal.attend-requires-send-V
attend-requires-send-V g c κs within =
    let m = mount-send (param 1 g.row.D) g.D.Disk c.type_bounds.send-D in
    record { owned = m.owned; leaving = λ k. Quiet-if (k (of_param 1)) _ _ (m.leaving no) (λ x w. tt) }
