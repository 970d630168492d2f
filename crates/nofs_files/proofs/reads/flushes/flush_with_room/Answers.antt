use Rattle.std.proofs.Common.{refl, sym, ◌∙◌}
use Rattle.nofs_disk.specs.Chains.{StaysButFaults-refl}
use Rattle.nofs_history.specs.declared.machine.steps.Step.TheVariants as step
use Rattle.nofs_state.proofs.OnCores.Replies.{goes-stopped}
use Rattle.nofs_files.proofs.OnReads.Flushes.{ends-flush, opened-flush, settled-by, unopened-flush, whole-by, whole-row}
use Rattle.nofs_files.proofs.reads.flushes.flush_with_room.Goals as goal

pub returns-then-core-clause-goes : goal.returns-then-core-clause-goes
returns-then-core-clause-goes g c =
    goes-stopped (g.D.Disk.state c.args.core.now.disk) (g.D.Disk.state c.args.core.now.disk) c.args.core.now.books
    (step.Flush c.args.inode c.args.generation) (g.met.D.Disk.is_disk c.args.core.now.disk) c.requires.safe
    (StaysButFaults-refl (g.D.Disk.state c.args.core.now.disk)) refl c.if-core.true

pub returns-then-names_disk-clause-goes : goal.returns-then-names_disk-clause-goes
returns-then-names_disk-clause-goes g c =
    ends-flush (g.D.Disk.state c.args.core.now.disk) (g.D.Disk.state c.flush_disk.new.core.disk) c.args.core.now.books
    c.flush_disk.new.core.books c.args.inode c.args.generation c.flush_disk.result
    (g.met.D.Disk.is_disk c.args.core.now.disk)
    (g.met.D.Disk.is_disk c.flush_disk.new.core.disk) c.requires.safe c.if-core.false
    (λ tells H p o V. whole-row p.world V c.args.inode c.args.generation
    (sym c.names_disk.ensures ∙ c.if-names_disk.true)) c.flush_disk.ensures

pub returns-in-Ok-clause-goes : goal.returns-in-Ok-clause-goes
returns-in-Ok-clause-goes g c = opened-flush (g.D.Disk.state c.args.core.now.disk)
    (g.D.Disk.state c.open_inode.new.disk) c.args.core.now.books c.args.inode
    c.args.generation c.open_inode.new.last (g.met.D.Disk.is_disk c.args.core.now.disk) c.requires.safe c.if-core.false
    (g.D.Disk.state c.flush_disk-in-Ok.new.core.disk) c.flush_disk-in-Ok.new.core.books c.in-Ok.field-0
    c.flush_disk-in-Ok.result
    (g.met.D.Disk.is_disk c.open_inode.new.disk)
    (g.met.D.Disk.is_disk c.flush_disk-in-Ok.new.core.disk) c.in-Ok.ensures c.flush_disk-in-Ok.ensures

pub returns-in-Err-clause-goes : goal.returns-in-Err-clause-goes
returns-in-Err-clause-goes g c = unopened-flush (g.D.Disk.state c.args.core.now.disk)
    (g.D.Disk.state c.open_inode.new.disk) c.args.core.now.books c.args.inode
    c.args.generation c.open_inode.new.last (g.met.D.Disk.is_disk c.args.core.now.disk) c.requires.safe c.if-core.false
    c.open_inode.result c.in-Err.why (sym c.names_disk.ensures ∙ c.if-names_disk.false) c.open_inode.ensures c.in-Err.is

pub returns-then-names_disk-clause-settled : goal.returns-then-names_disk-clause-settled
returns-then-names_disk-clause-settled g c = settled-by _ _ _ _ _ c.flush_disk.ensures

pub returns-in-Ok-clause-settled : goal.returns-in-Ok-clause-settled
returns-in-Ok-clause-settled g c = settled-by _ _ _ _ _ c.flush_disk-in-Ok.ensures

pub returns-then-core-clause-whole : goal.returns-then-core-clause-whole
returns-then-core-clause-whole g c = λ whole. refl

pub returns-then-names_disk-clause-whole : goal.returns-then-names_disk-clause-whole
returns-then-names_disk-clause-whole g c = λ whole. whole-by _ _ _ _ _ c.flush_disk.ensures

pub returns-in-Ok-clause-whole : goal.returns-in-Ok-clause-whole
returns-in-Ok-clause-whole g c = λ whole.
    absurd (let e = c.names_disk.ensures in let f = c.if-names_disk.false in cc (e, f, whole))

pub returns-in-Err-clause-whole : goal.returns-in-Err-clause-whole
returns-in-Err-clause-whole g c = λ whole.
    absurd (let e = c.names_disk.ensures in let f = c.if-names_disk.false in cc (e, f, whole))
