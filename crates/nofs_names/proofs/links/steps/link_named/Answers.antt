use Rattle.std.proofs.Common.{sym, subst}
use Rattle.nofs_history.specs.declared.machine.steps.Step.TheVariants as step
use Rattle.nofs_history.specs.declared.machine.replies.Reply.TheVariants as reply
use Rattle.nofs_state.specs.Cores.Steps.{Goes}
use Rattle.nofs_names.specs.Renames.Parts.{done_answer}
use Rattle.nofs_state.specs.declared.writes.ends.Ended.{Ended}
use Rattle.nofs_state.proofs.OnCores.Unchanged.{goes-after, reads-keep}
use Rattle.nofs_names.proofs.OnLinks.Rows.{link-untold, link-ends}
use Rattle.nofs_names.proofs.links.steps.link_named.Goals as goal

pub returns-in-Err : goal.returns-in-Err
returns-in-Err g c = subst (λ (r : Ended). Goes (g.D.Disk.state c.args.core.now.disk) c.args.core.now.books
    (g.D.Disk.state c.read_tables.new.disk)
    c.args.core.now.books (step.Link c.args.at.directory c.args.at.generation c.args.named.now.name
    c.args.named.now.inode c.args.named.now.generation) r.claims
    (done_answer reply.Linked r.result)) (sym c.refused.ensures)
    (link-untold (g.D.Disk.state c.args.core.now.disk)
    (g.D.Disk.state c.read_tables.new.disk) c.args.core.now.books c.args.at.directory c.args.at.generation
    c.args.both.now c.args.place.now c.args.named.now c.args.link
    (g.met.D.Disk.is_disk c.args.core.now.disk) c.requires.safe c.requires.going
    c.requires.known c.read_tables.ensures.stays c.in-Err.ensures.cause)

pub returns : goal.returns
returns g c = goes-after (g.D.Disk.state c.args.core.now.disk) (g.D.Disk.state c.read_tables.new.disk)
    (reads-keep (g.D.Disk.state c.args.core.now.disk)
    (g.D.Disk.state c.read_tables.new.disk) c.read_tables.ensures.stays) c.in-Ok.ensures.no_fault
    (g.D.Disk.state c.enter.new.core.disk) c.args.core.now.books c.enter.new.core.books
    (step.Link c.args.at.directory c.args.at.generation c.args.named.now.name c.args.named.now.inode
    c.args.named.now.generation) c.enter.result.claims
    (done_answer reply.Linked c.enter.result.result)
    (link-ends (g.D.Disk.state c.args.core.now.disk) (g.D.Disk.state c.read_tables.new.disk)
    (g.D.Disk.state c.enter.new.core.disk) c.args.core.now.books
    c.enter.new.core.books c.args.at.directory c.args.at.generation c.args.both.now c.args.place.now c.args.named.now
    c.args.link c.in-Ok.tables c.enter.result
    c.linked-after.result c.read_tables.new.last (g.met.D.Disk.is_disk c.read_tables.new.disk)
    (g.met.D.Disk.is_disk c.enter.new.core.disk)
    c.requires.safe c.requires.going c.requires.known c.args.both.now.file c.requires.may
    c.in-Ok.ensures c.linked-after.ensures c.enter.ensures)
