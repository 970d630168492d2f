use Rattle.std.proofs.Common.{refl}
use Rattle.nofs_disk.specs.Chains.{StaysButFaults-refl}
use Rattle.nofs_history.specs.declared.machine.steps.Step.TheVariants as step
use Rattle.nofs_state.proofs.OnCores.Replies.{goes-stopped}
use Rattle.nofs_state.proofs.OnCores.Refusals.{goes-unopened}
use Rattle.nofs_files.proofs.OnReads.Memory.{open-memory}
use Rattle.nofs_files.proofs.OnReads.Stats.{goes-counted, goes-uncounted, stat-stale, stat-late}
use Rattle.nofs_files.proofs.reads.stats.stat.Goals as goal

pub returns-then-core-clause-goes : goal.returns-then-core-clause-goes
returns-then-core-clause-goes g c =
    goes-stopped (g.D.Disk.state c.args.core.now.disk) (g.D.Disk.state c.args.core.now.disk) c.args.core.now.books
    (step.Stat c.args.inode c.args.generation) (g.met.D.Disk.is_disk c.args.core.now.disk) c.requires
    (StaysButFaults-refl (g.D.Disk.state c.args.core.now.disk)) refl c.if-core.true

pub returns-in-Err-clause-goes : goal.returns-in-Err-clause-goes
returns-in-Err-clause-goes g c =
    goes-unopened (g.D.Disk.state c.args.core.now.disk) (g.D.Disk.state c.open_inode.new.disk) c.args.core.now.books
    (step.Stat c.args.inode c.args.generation) c.args.inode c.args.generation c.open_inode.new.last
    c.open_inode.result c.in-Err.why
    (g.met.D.Disk.is_disk c.args.core.now.disk) c.requires c.if-core.false c.open_inode.ensures c.in-Err.is
    (λ W e. stat-stale W c.args.inode c.args.generation e) (λ W. stat-late W c.args.inode c.args.generation)

pub returns-in-Ok-count_links-clause-goes : goal.returns-in-Ok-count_links-clause-goes
returns-in-Ok-count_links-clause-goes g c =
    goes-counted (g.D.Disk.state c.args.core.now.disk) (g.D.Disk.state c.open_inode.new.disk)
    (g.D.Disk.state c.count_links.new.disk) c.args.core.now.books c.args.inode c.args.generation
    c.open_inode.new.last c.in-Ok.it
    (g.met.D.Disk.is_disk c.args.core.now.disk) c.requires c.if-core.false c.in-Ok.ensures c.in-Ok-count_links.links
    c.in-Ok-count_links.ensures

pub returns-in-Err-count_links-clause-goes : goal.returns-in-Err-count_links-clause-goes
returns-in-Err-count_links-clause-goes g c =
    goes-uncounted (g.D.Disk.state c.args.core.now.disk) (g.D.Disk.state c.open_inode.new.disk)
    (g.D.Disk.state c.count_links.new.disk) c.args.core.now.books c.args.inode c.args.generation
    c.open_inode.new.last c.in-Ok.it
    (g.met.D.Disk.is_disk c.args.core.now.disk) c.requires c.if-core.false c.in-Ok.ensures c.in-Err-count_links.field-0
    c.in-Err-count_links.ensures

pub returns-in-Err-clause-no_memory : goal.returns-in-Err-clause-no_memory
returns-in-Err-clause-no_memory g c =
    open-memory (g.D.Disk.state c.args.core.now.disk) (g.D.Disk.state c.open_inode.new.disk) c.args.core.now.books
    c.args.inode c.args.generation c.in-Err.why c.in-Err.ensures.refused
