use Rattle.std.proofs.Common.{ap}
use Rattle.nofs_history.specs.Claims.{no_claims}
use Rattle.nofs_history.specs.declared.machine.steps.Step.TheVariants as step
use Rattle.nofs_history.specs.Steps.{is_out_of_memory}
use Rattle.nofs_state.proofs.OnCores.Unchanged.{goes-after, goes-memory, ready-keeps}
use Rattle.nofs_state.proofs.OnCores.FirstRows.{early-memory}
use Rattle.nofs_state.specs.declared.writes.ends.Ended.{Ended}
use Rattle.nofs_files.proofs.OnPuts.LostBlocks.{ended}
use Rattle.nofs_files.specs.Puts.{put_answer}
use Rattle.nofs_files.proofs.puts.steps.put.Goals as goal

pub returns-in-Ok-clause-goes : goal.returns-in-Ok-clause-goes
returns-in-Ok-clause-goes g c =
    let old = g.D.Disk.state c.args.core.now.disk in
    let new = g.D.Disk.state c.ready.new.self in
    goes-after old new (ready-keeps old new 4 c.ready.result c.ready.ensures) c.ready.ensures.no_fault
    (g.D.Disk.state c.put_with_room.new.core.disk)
    c.args.core.now.books c.put_with_room.new.core.books
    (step.Put c.args.inode c.args.generation c.args.slot c.args.at c.args.bytes.now)
    c.put_with_room.result.claims (put_answer c.put_with_room.result.result) c.put_with_room.ensures.goes

pub returns-in-Err-clause-goes : goal.returns-in-Err-clause-goes
returns-in-Err-clause-goes g c =
    let old = g.D.Disk.state c.args.core.now.disk in
    let new = g.D.Disk.state c.ready.new.self in
    ended c.refused.ensures
    (goes-memory old new
    (ready-keeps old new 4 c.ready.result c.ready.ensures) c.ready.ensures.no_fault c.args.core.now.books
    (step.Put c.args.inode c.args.generation c.args.slot c.args.at c.args.bytes.now) no_claims c.requires)

pub returns-in-Ok-clause-early : goal.returns-in-Ok-clause-early
returns-in-Ok-clause-early g c = c.put_with_room.ensures.early

pub returns-in-Err-clause-early : goal.returns-in-Err-clause-early
returns-in-Err-clause-early g c =
    early-memory c.args.core.now.books
    (step.Put c.args.inode c.args.generation c.args.slot c.args.at c.args.bytes.now)
    (put_answer c.refused.result.result) (ap (λ (e : Ended). is_out_of_memory (put_answer e.result)) c.refused.ensures)
