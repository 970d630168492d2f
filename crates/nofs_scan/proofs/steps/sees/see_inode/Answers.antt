use Rattle.std.proofs.Common.{sym, ◌∙◌}
use Rattle.nofs_history.specs.declared.machine.steps.Step.TheVariants as step
use Rattle.nofs_scan.proofs.OnSteps.Elements.{inode-beyond, inode-verified, examined-stopped}
use Rattle.nofs_scan.proofs.steps.sees.see_inode.Goals as goal

pub returns-then-core : goal.returns-then-core
returns-then-core g c = examined-stopped (g.D.Disk.state c.args.core.now.disk) c.args.core.now.books
    (step.SeeInode c.args.inode) (g.met.D.Disk.is_disk c.args.core.now.disk) c.requires c.if-core.true

pub returns-then-beyond : goal.returns-then-beyond
returns-then-beyond g c = inode-beyond (g.D.Disk.state c.args.core.now.disk) c.args.core.now.books
    (g.met.D.Disk.is_disk c.args.core.now.disk) c.requires c.if-core.false
    c.args.inode (sym c.is_beyond-beyond.ensures ∙ c.if-beyond.true)

pub returns-in-Ok : goal.returns-in-Ok
returns-in-Ok g c = (inode-verified _ c.args.core.now.books
    (g.met.D.Disk.is_disk c.args.core.now.disk) c.requires c.if-core.false _ _ _ c.args.inode
    (sym c.is_beyond-beyond.ensures ∙ c.if-beyond.false) c.verify_inode.ensures).read c.in-Ok.used c.in-Ok.is

pub returns-in-Err : goal.returns-in-Err
returns-in-Err g c = (inode-verified _ c.args.core.now.books
    (g.met.D.Disk.is_disk c.args.core.now.disk) c.requires c.if-core.false _ _ _ c.args.inode
    (sym c.is_beyond-beyond.ensures ∙ c.if-beyond.false) c.verify_inode.ensures).unread c.in-Err.field-0 c.in-Err.is
