use Rattle.std.proofs.Common.{◌≤◌, ℕ, refl, sym, subst}
use Rattle.nofs_history.specs.Claims.{no_claims}
use Rattle.nofs_history.specs.declared.machine.steps.Step.TheVariants as step
use Rattle.nofs_state.proofs.OnCores.Unchanged.{goes-after, reads-keep, safe-keeps}
use Rattle.nofs_names.specs.Drops.Answers.{drop_answer}
use Rattle.nofs_names.proofs.OnDrops.Reads.{may-on}
use Rattle.nofs_names.proofs.OnDrops.Contract.{drop-unheld, drop-clears}
use Rattle.nofs_names.proofs.drops.steps.drop_found.Goals as goal

pub returns-in-Err : goal.returns-in-Err
returns-in-Err g c = drop-unheld (g.D.Disk.state c.args.core.now.disk)
    (g.D.Disk.state c.hold_entry.new.disk) c.args.core.now.books c.args.pair.at.directory
    c.args.pair.at.generation c.args.pair.at.name.now c.args.pair.it c.args.pair.found
    (g.met.D.Disk.is_disk c.args.core.now.disk) c.requires.safe
    c.requires.going
    c.requires.finds c.hold_entry.new.names c.hold_entry.result c.in-Err.why c.hold_entry.ensures c.in-Err.is

pub drop_cleared-requires : goal.drop_cleared-requires
drop_cleared-requires g c =
    let old = g.D.Disk.state c.args.core.now.disk in
    let new = g.D.Disk.state c.hold_entry.new.disk in
    let k = c.args.core.now.books in
    let stays = c.hold_entry.ensures.stays in
    let at = c.args.pair.at in
    record {
      safe = safe-keeps old new (reads-keep old new stays) k c.requires.safe;
      spare = subst (λ (n : ℕ). 2 ≤ n) (sym stays.spare) c.requires.spare;
      going = c.requires.going;
      finds = may-on old new stays k at.directory at.generation at.name.now c.args.pair.it c.args.pair.found
          c.requires.finds;
      clears = drop-clears old new k at.directory at.generation at.name.now c.args.pair.it c.args.pair.found
          (g.met.D.Disk.is_disk c.args.core.now.disk) c.requires.safe c.requires.going c.requires.finds
          c.hold_entry.new.names c.in-Ok.pointer
          c.hold_entry.new.names.cell
          (record c.hold_entry.new.names.cell { payload = c.clear_place.new.payload }) c.in-Ok.ensures refl
          c.clear_place.ensures.whole c.clear_place.ensures.put refl;
    }

pub returns-in-Ok : goal.returns-in-Ok
returns-in-Ok g c = goes-after (g.D.Disk.state c.args.core.now.disk) (g.D.Disk.state c.hold_entry.new.disk)
    (reads-keep (g.D.Disk.state c.args.core.now.disk) (g.D.Disk.state c.hold_entry.new.disk) c.hold_entry.ensures.stays)
    c.in-Ok.ensures.no_fault
    (g.D.Disk.state c.drop_cleared.new.core.disk) c.args.core.now.books c.drop_cleared.new.core.books
    (step.Drop c.args.pair.at.directory c.args.pair.at.generation c.args.pair.at.name.now) no_claims
    (drop_answer c.drop_cleared.result) c.drop_cleared.ensures
