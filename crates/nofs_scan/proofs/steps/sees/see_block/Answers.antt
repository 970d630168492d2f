use Rattle.nofs_history.specs.declared.machine.steps.Step.TheVariants as step
use Rattle.nofs_scan.proofs.OnSteps.Elements.{block-beyond, block-verified, examined-stopped}
use Rattle.nofs_scan.proofs.steps.sees.see_block.Goals as goal

pub returns-then-core : goal.returns-then-core
returns-then-core g c = examined-stopped (g.D.Disk.state c.args.core.now.disk) c.args.core.now.books
    (step.SeeBlock c.args.block) (g.met.D.Disk.is_disk c.args.core.now.disk) c.requires c.if-core.true

pub returns-then-block-core : goal.returns-then-block-core
returns-then-block-core g c = block-beyond (g.D.Disk.state c.args.core.now.disk) c.args.core.now.books
    (g.met.D.Disk.is_disk c.args.core.now.disk) c.requires c.if-core.false
    c.args.block c.if-block-core.true

pub returns-in-Ok : goal.returns-in-Ok
returns-in-Ok g c = (block-verified _ c.args.core.now.books
    (g.met.D.Disk.is_disk c.args.core.now.disk) c.requires c.if-core.false _ _ _ c.args.block
    c.if-block-core.false c.verify_block.ensures).read c.in-Ok.used c.in-Ok.is

pub returns-in-Err : goal.returns-in-Err
returns-in-Err g c = (block-verified _ c.args.core.now.books
    (g.met.D.Disk.is_disk c.args.core.now.disk) c.requires c.if-core.false _ _ _ c.args.block
    c.if-block-core.false c.verify_block.ensures).unread c.in-Err.field-0 c.in-Err.is
