use Rattle.std.proofs.Common.{sym, subst, ap}
use Rattle.nofs_history.specs.Claims.{no_claims}
use Rattle.nofs_history.specs.declared.machine.steps.Step.TheVariants as step
use Rattle.nofs_history.specs.declared.machine.replies.Reply.TheVariants as reply
use Rattle.nofs_history.specs.Steps.{is_out_of_memory}
use Rattle.nofs_state.specs.Cores.Steps.{Goes}
use Rattle.nofs_names.specs.Renames.Parts.{done_answer}
use Rattle.nofs_state.specs.declared.writes.ends.Ended.{Ended}
use Rattle.nofs_state.proofs.OnCores.Unchanged.{goes-after, goes-memory, ready-keeps}
use Rattle.nofs_state.proofs.OnCores.FirstRows.{early-memory}
use Rattle.nofs_names.proofs.links.steps.link.Goals as goal

pub returns-in-Ok-clause-goes : goal.returns-in-Ok-clause-goes
returns-in-Ok-clause-goes g c = goes-after (g.D.Disk.state c.args.core.now.disk) (g.D.Disk.state c.ready.new.self)
    (ready-keeps (g.D.Disk.state c.args.core.now.disk)
    (g.D.Disk.state c.ready.new.self) 4 c.ready.result c.ready.ensures) c.ready.ensures.no_fault
    (g.D.Disk.state c.link_with_room.new.core.disk) c.args.core.now.books c.link_with_room.new.core.books
    (step.Link c.args.directory c.args.generation c.args.name.now c.args.inode c.args.of) c.link_with_room.result.claims
    (done_answer reply.Linked c.link_with_room.result.result) c.link_with_room.ensures.goes

pub returns-in-Err-clause-goes : goal.returns-in-Err-clause-goes
returns-in-Err-clause-goes g c = subst
    (λ (r : Ended). Goes (g.D.Disk.state c.args.core.now.disk) c.args.core.now.books (g.D.Disk.state c.ready.new.self)
    c.args.core.now.books (step.Link c.args.directory c.args.generation c.args.name.now c.args.inode c.args.of) r.claims
    (done_answer reply.Linked r.result))
    (sym c.refused.ensures)
    (goes-memory (g.D.Disk.state c.args.core.now.disk) (g.D.Disk.state c.ready.new.self)
    (ready-keeps (g.D.Disk.state c.args.core.now.disk)
    (g.D.Disk.state c.ready.new.self) 4 c.ready.result c.ready.ensures) c.ready.ensures.no_fault c.args.core.now.books
    (step.Link c.args.directory c.args.generation c.args.name.now c.args.inode c.args.of) no_claims c.requires)

-- what needs no disk to be refused
pub returns-in-Ok-clause-early : goal.returns-in-Ok-clause-early
returns-in-Ok-clause-early g c = c.link_with_room.ensures.early

pub returns-in-Err-clause-early : goal.returns-in-Err-clause-early
returns-in-Err-clause-early g c = early-memory c.args.core.now.books
    (step.Link c.args.directory c.args.generation c.args.name.now c.args.inode c.args.of)
    (done_answer reply.Linked c.refused.result.result)
    (ap (λ (e : Ended). is_out_of_memory (done_answer reply.Linked e.result)) c.refused.ensures)
