use Rattle.std.proofs.Common.{refl}
use Rattle.nofs_history.specs.Claims.{no_claims}
use Rattle.nofs_history.specs.declared.machine.steps.Step.TheVariants as step
use Rattle.nofs_history.specs.declared.machine.replies.Reply.TheVariants as reply
use Rattle.nofs_history.specs.declared.machine.replies.Refusal.TheVariants as refusal
use Rattle.nofs_state.proofs.OnCores.Unchanged.{goes-after, goes-memory, ready-keeps}
use Rattle.nofs_state.proofs.OnCores.FirstRows.{early-memory}
use Rattle.nofs_files.specs.Resizes.{resize_answer}
use Rattle.nofs_files.proofs.resizes.steps.resize.Goals as goal

pub returns-in-Ok-clause-goes : goal.returns-in-Ok-clause-goes
returns-in-Ok-clause-goes g c = goes-after (g.D.Disk.state c.args.core.now.disk) (g.D.Disk.state c.ready.new.self)
    (ready-keeps (g.D.Disk.state c.args.core.now.disk)
    (g.D.Disk.state c.ready.new.self) 4 c.ready.result c.ready.ensures) c.ready.ensures.no_fault
    (g.D.Disk.state c.resize_with_room.new.core.disk) c.args.core.now.books c.resize_with_room.new.core.books
    (step.Resize c.args.inode c.args.generation c.args.size) no_claims
    (resize_answer c.resize_with_room.result) c.resize_with_room.ensures.goes

pub returns-in-Err-clause-goes : goal.returns-in-Err-clause-goes
returns-in-Err-clause-goes g c = goes-memory (g.D.Disk.state c.args.core.now.disk) (g.D.Disk.state c.ready.new.self)
    (ready-keeps (g.D.Disk.state c.args.core.now.disk)
    (g.D.Disk.state c.ready.new.self) 4 c.ready.result c.ready.ensures) c.ready.ensures.no_fault
    c.args.core.now.books (step.Resize c.args.inode c.args.generation c.args.size) no_claims c.requires

pub returns-in-Ok-clause-early : goal.returns-in-Ok-clause-early
returns-in-Ok-clause-early g c = c.resize_with_room.ensures.early

pub returns-in-Err-clause-early : goal.returns-in-Err-clause-early
returns-in-Err-clause-early g c =
    early-memory c.args.core.now.books (step.Resize c.args.inode c.args.generation c.args.size)
    (reply.Refused refusal.OutOfMemory) refl
