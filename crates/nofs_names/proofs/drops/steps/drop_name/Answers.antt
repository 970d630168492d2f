use Rattle.nofs_history.specs.declared.machine.replies.Refusal.TheVariants as refusal
use Rattle.nofs_history.specs.declared.machine.replies.Reply.TheVariants as reply
use Rattle.std.proofs.Common.{refl}
use Rattle.nofs_history.specs.Claims.{no_claims}
use Rattle.nofs_history.specs.declared.machine.steps.Step.TheVariants as step
use Rattle.nofs_state.proofs.OnCores.Unchanged.{goes-after, goes-memory, ready-keeps}
use Rattle.nofs_state.proofs.OnCores.FirstRows.{early-memory}
use Rattle.nofs_names.specs.Drops.Answers.{drop_answer}
use Rattle.nofs_names.proofs.drops.steps.drop_name.Goals as goal

pub returns-in-Ok-clause-goes : goal.returns-in-Ok-clause-goes
returns-in-Ok-clause-goes g c = goes-after (g.D.Disk.state c.args.core.now.disk) (g.D.Disk.state c.ready.new.self)
    (ready-keeps (g.D.Disk.state c.args.core.now.disk)
    (g.D.Disk.state c.ready.new.self) 2 c.ready.result c.ready.ensures) c.ready.ensures.no_fault
    (g.D.Disk.state c.drop_with_room.new.core.disk) c.args.core.now.books c.drop_with_room.new.core.books
    (step.Drop c.args.directory c.args.generation c.args.name.now) no_claims
    (drop_answer c.drop_with_room.result) c.drop_with_room.ensures.goes

pub returns-in-Err-clause-goes : goal.returns-in-Err-clause-goes
returns-in-Err-clause-goes g c = goes-memory (g.D.Disk.state c.args.core.now.disk) (g.D.Disk.state c.ready.new.self)
    (ready-keeps (g.D.Disk.state c.args.core.now.disk)
    (g.D.Disk.state c.ready.new.self) 2 c.ready.result c.ready.ensures) c.ready.ensures.no_fault c.args.core.now.books
    (step.Drop c.args.directory c.args.generation c.args.name.now) no_claims c.requires

-- what needs no disk to be refused
pub returns-in-Ok-clause-early : goal.returns-in-Ok-clause-early
returns-in-Ok-clause-early g c = c.drop_with_room.ensures.early

pub returns-in-Err-clause-early : goal.returns-in-Err-clause-early
returns-in-Err-clause-early g c = early-memory c.args.core.now.books
    (step.Drop c.args.directory c.args.generation c.args.name.now) (reply.Refused refusal.OutOfMemory) refl
