use Rattle.nofs_history.specs.declared.machine.replies.Refusal.TheVariants as refusal
use Rattle.nofs_state.specs.declared.writes.ends.Ended.{Ended}
use Rattle.std.proofs.Common.{sym, refl, ◌≡◌, true, false, ap}
use Rattle.nofs_disk.specs.Chains.{StaysButFaults-refl}
use Rattle.nofs_history.specs.declared.machine.steps.Step.TheVariants as step
use Rattle.nofs_history.specs.declared.machine.replies.Reply.TheVariants as reply
use Rattle.nofs_state.proofs.OnCores.Unchanged.{goes-after, reads-keep}
use Rattle.nofs_state.proofs.OnCores.Replies.{goes-stopped}
use Rattle.nofs_state.proofs.OnCores.FirstRows.{early-comes, early-none, early-stopped}
use Rattle.nofs_names.specs.Renames.Parts.{done_answer}
use Rattle.nofs_names.proofs.OnLinks.Refusals.{link-refused}
use Rattle.nofs_names.proofs.OnLinks.Rows.{link-bad, link-unopened, link-stands, link-leads}
use Rattle.nofs_names.proofs.links.steps.link_with_room.Goals as goal
use Rattle.nofs_names.specs.Links.{link_step}
use Rattle.nofs_dirent.specs.Names.{is_name}

pub returns-then-core-clause-goes : goal.returns-then-core-clause-goes
returns-then-core-clause-goes g c = link-refused _
    (g.D.Disk.state c.args.core.now.disk) c.args.core.now.books c.args.new c.refused.result _ c.refused.ensures
    (goes-stopped (g.D.Disk.state c.args.core.now.disk) (g.D.Disk.state c.args.core.now.disk) c.args.core.now.books
    (step.Link c.args.new.at.directory c.args.new.at.generation c.args.new.at.name.now c.args.new.inode c.args.new.of)
    (g.met.D.Disk.is_disk
    c.args.core.now.disk) c.requires.safe
    (StaysButFaults-refl (g.D.Disk.state c.args.core.now.disk)) refl c.if-core.true)

pub returns-then-not-name_ok-clause-goes : goal.returns-then-not-name_ok-clause-goes
returns-then-not-name_ok-clause-goes g c = link-refused _
    (g.D.Disk.state c.args.core.now.disk) c.args.core.now.books c.args.new c.refused-then-not-name_ok.result _
    c.refused-then-not-name_ok.ensures
    (link-bad (g.D.Disk.state c.args.core.now.disk) c.args.core.now.books c.args.new.at.directory
    c.args.new.at.generation c.args.new.at.name.now
    c.args.new.inode c.args.new.of
    (g.met.D.Disk.is_disk c.args.core.now.disk) c.requires.safe c.if-core.false (sym c.if-not-name_ok.ensures.value))

pub returns-in-Err-clause-goes : goal.returns-in-Err-clause-goes
returns-in-Err-clause-goes g c = link-refused _ (g.D.Disk.state c.open_both.new.disk) c.args.core.now.books c.args.new
    c.refused-in-Err.result _ c.refused-in-Err.ensures
    (link-unopened (g.D.Disk.state c.args.core.now.disk) c.args.core.now.books c.args.new.at.directory
    c.args.new.at.generation c.args.new.at.name.now
    c.args.new.inode c.args.new.of
    (g.met.D.Disk.is_disk c.args.core.now.disk) c.requires.safe c.if-core.false (sym c.if-not-name_ok.ensures.value)
    (g.D.Disk.state c.open_both.new.disk)
    c.open_both.result c.in-Err.why c.open_both.ensures c.in-Err.is)

pub link_opened-requires-clause-stands : goal.link_opened-requires-clause-stands
link_opened-requires-clause-stands g c =
    link-stands (g.D.Disk.state c.args.core.now.disk) c.args.core.now.books c.args.new.at.directory
    c.args.new.at.generation
    c.args.new.at.name.now c.args.new.inode c.args.new.of
    (g.met.D.Disk.is_disk c.args.core.now.disk) c.requires.safe c.if-core.false (sym
    c.if-not-name_ok.ensures.value)
    (g.D.Disk.state c.open_both.new.disk) c.in-Ok.both c.in-Ok.ensures

pub link_opened-requires-clause-lead : goal.link_opened-requires-clause-lead
link_opened-requires-clause-lead g c = link-leads (g.D.Disk.state c.args.core.now.disk) c.args.core.now.books
    c.args.new.at.directory c.args.new.at.generation
    c.args.new.at.name.now c.args.new.inode c.args.new.of
    (g.met.D.Disk.is_disk c.args.core.now.disk) c.requires.safe c.if-core.false (sym
    c.if-not-name_ok.ensures.value)
    (g.D.Disk.state c.open_both.new.disk) c.in-Ok.both c.in-Ok.ensures

pub returns-clause-goes : goal.returns-clause-goes
returns-clause-goes g c = goes-after (g.D.Disk.state c.args.core.now.disk) (g.D.Disk.state c.open_both.new.disk)
    (reads-keep (g.D.Disk.state c.args.core.now.disk) (g.D.Disk.state c.open_both.new.disk) c.open_both.ensures.stays)
    c.in-Ok.ensures.no_fault
    (g.D.Disk.state c.link_opened.new.core.disk) c.args.core.now.books c.link_opened.new.core.books
    (step.Link c.args.new.at.directory c.args.new.at.generation c.args.new.at.name.now c.args.new.inode c.args.new.of)
    c.link_opened.result.claims
    (done_answer reply.Linked c.link_opened.result.result) c.link_opened.ensures

-- what needs no disk to be refused
pub returns-then-core-clause-early : goal.returns-then-core-clause-early
returns-then-core-clause-early g c = early-stopped c.args.core.now.books (link_step c.args.new)
    (done_answer reply.Linked c.refused.result.result) c.if-core.true

pub returns-then-not-name_ok-clause-early : goal.returns-then-not-name_ok-clause-early
returns-then-not-name_ok-clause-early g c = early-comes c.args.core.now.books (link_step c.args.new)
    (done_answer reply.Linked c.refused-then-not-name_ok.result.result) refusal.BadName
    (let bad : is_name c.args.new.at.name.now ≡ false = sym c.if-not-name_ok.ensures.value in rw bad refl)
    (ap (λ (e : Ended). done_answer reply.Linked e.result) c.refused-then-not-name_ok.ensures)

pub returns-in-Err-clause-early : goal.returns-in-Err-clause-early
returns-in-Err-clause-early g c = early-none c.args.core.now.books (link_step c.args.new)
    (done_answer reply.Linked c.refused-in-Err.result.result)
    (let good : is_name c.args.new.at.name.now ≡ true = sym c.if-not-name_ok.ensures.value in rw good refl)

pub returns-clause-early : goal.returns-clause-early
returns-clause-early g c = early-none c.args.core.now.books (link_step c.args.new)
    (done_answer reply.Linked c.link_opened.result.result)
    (let good : is_name c.args.new.at.name.now ≡ true = sym c.if-not-name_ok.ensures.value in rw good refl)
