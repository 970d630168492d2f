use Rattle.nofs_state.specs.declared.writes.ends.Ended.{Ended}
use Rattle.std.proofs.Common.{refl, ap}
use Rattle.nofs_disk.specs.Chains.{StaysButFaults-refl}
use Rattle.nofs_history.specs.Claims.{no_claims}
use Rattle.nofs_history.specs.declared.machine.steps.Step.TheVariants as step
use Rattle.nofs_history.specs.declared.machine.replies.Refusal.TheVariants as refusal
use Rattle.nofs_history.specs.Steps.{is_out_of_memory}
use Rattle.nofs_state.proofs.OnCores.Unchanged.{goes-after, goes-memory, ready-keeps, reads-keep}
use Rattle.nofs_state.proofs.OnCores.FirstRows.{early-memory}
use Rattle.nofs_names.specs.Makes.{made_answer}
use Rattle.nofs_names.proofs.OnMakes.Rows.{refused-goes}
use Rattle.nofs_names.proofs.makes.steps.make.Goals as goal

pub returns-in-Err-clause-goes : goal.returns-in-Err-clause-goes
returns-in-Err-clause-goes g c = refused-goes (g.D.Disk.state c.args.core.now.disk)
    (g.D.Disk.state c.args.core.now.disk) c.args.core.now.books c.args.directory
    c.args.generation c.args.name.now c.args.kind c.refused.result refusal.OutOfMemory c.refused.ensures
    (goes-memory (g.D.Disk.state c.args.core.now.disk) (g.D.Disk.state c.args.core.now.disk)
    (reads-keep (g.D.Disk.state c.args.core.now.disk) (g.D.Disk.state c.args.core.now.disk)
    (StaysButFaults-refl (g.D.Disk.state c.args.core.now.disk))) refl
    c.args.core.now.books
    (step.Make c.args.directory c.args.generation c.args.name.now c.args.kind) no_claims c.requires)

pub returns-in-Ok-ready-clause-goes : goal.returns-in-Ok-ready-clause-goes
returns-in-Ok-ready-clause-goes g c = goes-after (g.D.Disk.state c.args.core.now.disk) (g.D.Disk.state c.ready.new.self)
    (ready-keeps (g.D.Disk.state c.args.core.now.disk)
    (g.D.Disk.state c.ready.new.self) 4 c.ready.result c.ready.ensures) c.ready.ensures.no_fault
    (g.D.Disk.state c.make_with_room.new.core.disk) c.args.core.now.books c.make_with_room.new.core.books
    (step.Make c.args.directory c.args.generation c.args.name.now c.args.kind) c.make_with_room.result.claims
    (made_answer c.make_with_room.result.claims c.make_with_room.result.result) c.make_with_room.ensures.goes

pub returns-in-Err-ready-clause-goes : goal.returns-in-Err-ready-clause-goes
returns-in-Err-ready-clause-goes g c = refused-goes (g.D.Disk.state c.args.core.now.disk)
    (g.D.Disk.state c.ready.new.self) c.args.core.now.books c.args.directory c.args.generation c.args.name.now
    c.args.kind c.refused-in-Err-ready.result
    refusal.OutOfMemory c.refused-in-Err-ready.ensures
    (goes-memory (g.D.Disk.state c.args.core.now.disk) (g.D.Disk.state c.ready.new.self)
    (ready-keeps (g.D.Disk.state c.args.core.now.disk)
    (g.D.Disk.state c.ready.new.self) 4 c.ready.result c.ready.ensures) c.ready.ensures.no_fault c.args.core.now.books
    (step.Make c.args.directory c.args.generation c.args.name.now c.args.kind) no_claims c.requires)

-- what needs no disk to be refused
pub returns-in-Ok-ready-clause-early : goal.returns-in-Ok-ready-clause-early
returns-in-Ok-ready-clause-early g c = c.make_with_room.ensures.early

pub returns-in-Err-clause-early : goal.returns-in-Err-clause-early
returns-in-Err-clause-early g c = early-memory c.args.core.now.books
    (step.Make c.args.directory c.args.generation c.args.name.now c.args.kind)
    (made_answer c.refused.result.claims c.refused.result.result)
    (ap (λ (e : Ended). is_out_of_memory (made_answer e.claims e.result)) c.refused.ensures)

pub returns-in-Err-ready-clause-early : goal.returns-in-Err-ready-clause-early
returns-in-Err-ready-clause-early g c = early-memory c.args.core.now.books
    (step.Make c.args.directory c.args.generation c.args.name.now c.args.kind)
    (made_answer c.refused-in-Err-ready.result.claims c.refused-in-Err-ready.result.result)
    (ap (λ (e : Ended). is_out_of_memory (made_answer e.claims e.result)) c.refused-in-Err-ready.ensures)
