use Rattle.nofs_history.specs.Claims.{no_claims}
use Rattle.nofs_history.specs.declared.machine.steps.Step.TheVariants as step
use Rattle.nofs_state.proofs.OnCores.Unchanged.{goes-after, goes-memory, ready-keeps}
use Rattle.nofs_files.specs.Reads.{flush_answer}
use Rattle.nofs_files.proofs.reads.flushes.flush.Goals as goal

pub returns-in-Ok-clause-goes : goal.returns-in-Ok-clause-goes
returns-in-Ok-clause-goes g c = goes-after (g.D.Disk.state c.args.core.now.disk) (g.D.Disk.state c.ready.new.self)
    (ready-keeps (g.D.Disk.state c.args.core.now.disk)
    (g.D.Disk.state c.ready.new.self) 1 c.ready.result c.ready.ensures) c.ready.ensures.no_fault
    (g.D.Disk.state c.flush_with_room.new.core.disk) c.args.core.now.books c.flush_with_room.new.core.books
    (step.Flush c.args.inode c.args.generation)
    no_claims (flush_answer c.flush_with_room.result) c.flush_with_room.ensures.goes

pub returns-in-Err-clause-goes : goal.returns-in-Err-clause-goes
returns-in-Err-clause-goes g c = goes-memory (g.D.Disk.state c.args.core.now.disk) (g.D.Disk.state c.ready.new.self)
    (ready-keeps (g.D.Disk.state c.args.core.now.disk)
    (g.D.Disk.state c.ready.new.self) 1 c.ready.result c.ready.ensures) c.ready.ensures.no_fault c.args.core.now.books
    (step.Flush c.args.inode c.args.generation) no_claims c.requires
