use Rattle.std.proofs.Common.{refl}
use Rattle.nofs_history.specs.Claims.{no_claims}
use Rattle.nofs_history.specs.declared.machine.steps.Step.TheVariants as step
use Rattle.nofs_state.proofs.OnCores.Unchanged.{goes-memory, reads-keep}
use Rattle.nofs_names.proofs.OnRenames.Contract.{rename-ends, rename-unheld}
use Rattle.nofs_names.proofs.renames.rename_found.Goals as goal

pub returns-in-Err : goal.returns-in-Err
returns-in-Err g c = rename-unheld (g.D.Disk.state c.args.core.now.disk) (g.D.Disk.state c.hold_entry.new.disk)
    c.args.core.now.books c.args.pair.at.directory c.args.pair.at.generation c.args.pair.at.name.now c.args.new.now
    c.args.pair.it c.args.pair.found
    (g.met.D.Disk.is_disk c.args.core.now.disk) c.requires.safe c.requires.going c.requires.may.directory
    c.requires.may.generation c.requires.may.there
    c.requires.may.found
    c.requires.may.rows c.hold_entry.new.names c.hold_entry.result c.in-Err.why c.hold_entry.ensures c.in-Err.is

pub returns-in-Ok-put_entry : goal.returns-in-Ok-put_entry
returns-in-Ok-put_entry g c = rename-ends (g.D.Disk.state c.args.core.now.disk) (g.D.Disk.state c.hold_entry.new.disk)
    c.args.core.now.books c.args.pair.at.directory c.args.pair.at.generation c.args.pair.at.name.now c.args.new.now
    c.args.pair.it c.args.pair.found
    (g.met.D.Disk.is_disk c.args.core.now.disk) c.requires.safe c.requires.going c.requires.may.directory
    c.requires.may.generation c.requires.may.there
    c.requires.may.found
    c.requires.may.rows
    (g.D.Disk.state c.write_one.new.core.disk) c.write_one.new.core.books c.in-Ok.pointer c.hold_entry.new.names.cell
    (record c.hold_entry.new.names.cell { payload = c.put_entry.new.payload }) c.write_one.result
    (g.met.D.Disk.is_disk c.hold_entry.new.disk) (g.met.D.Disk.is_disk c.write_one.new.core.disk)
    c.hold_entry.ensures.stays c.in-Ok.ensures.no_fault c.in-Ok.ensures.area c.in-Ok.ensures.held c.in-Ok.ensures.cell
    c.put_entry.ensures.whole
    c.put_entry.ensures.spells
    c.in-Ok-put_entry.ensures.put refl c.write_one.ensures

pub returns-in-Err-put_entry : goal.returns-in-Err-put_entry
returns-in-Err-put_entry g c = goes-memory (g.D.Disk.state c.args.core.now.disk) (g.D.Disk.state c.hold_entry.new.disk)
    (reads-keep (g.D.Disk.state c.args.core.now.disk) (g.D.Disk.state c.hold_entry.new.disk) c.hold_entry.ensures.stays)
    c.in-Ok.ensures.no_fault c.args.core.now.books
    (step.Rename c.args.pair.at.directory c.args.pair.at.generation c.args.pair.at.name.now c.args.new.now)
    no_claims c.requires.safe
