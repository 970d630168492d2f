use Rattle.std.proofs.Common.{map, refl, subst}
use denote.Param.{param}
use denote.Exit.{no}
use mir.Syntax.{of_param}
use denote.Param.Send.{Quiet-if}
use Rattle.nofs_super.specs.declared.superblock.SuperBlock.{SuperBlock}
use Rattle.nofs_shared.proofs.OnMount.Threads.{evidence-send, mount-send}
use Rattle.nofs_serve.specs.Session.{TeamServed}
use Rattle.nofs_tool.proofs.OnSession.Serve.{swept-of}
use Rattle.nofs_tool.proofs.session.serve.serve_users.Goals as goal

pub serve-requires-send-V : goal.serve-requires-send-V
serve-requires-send-V g c κs within =
    let m = mount-send (param 1 g.row.D) g.D.Disk c.type_bounds.send-D in
    record { owned = m.owned; leaving = λ k. Quiet-if (k (of_param 1)) _ _ (m.leaving no) (λ x w. tt) }

pub returns-clause-served : goal.returns-clause-served
returns-clause-served g c = subst
    (λ (s : SuperBlock). TeamServed (map (λ p. p.commands) c.args.plans.items) s.inodes s.blocks
    c.serve.result.out_of_memory c.serve.result.lines.items
    c.args.mount.core.books.history.entries c.serve.result.mount.core.books.history.entries) c.numbers-at.ensures.is
    c.serve.ensures.served

pub returns-clause-swept : goal.returns-clause-swept
returns-clause-swept g c = λ new. swept-of _ _ c.args.mount.core.books.at _ _ _ _ _ _ c.numbers-at.ensures.is new refl
    c.serve.ensures.ended

pub serve-requires-send-V-Evidence : goal.serve-requires-send-V-Evidence
serve-requires-send-V-Evidence g c κs within =
    let m = evidence-send (param 1 g.row.D) g.D.Disk in
    record { owned = m.owned; leaving = λ k. Quiet-if (k (of_param 3)) _ _ (m.leaving no) (λ x w. tt) }
