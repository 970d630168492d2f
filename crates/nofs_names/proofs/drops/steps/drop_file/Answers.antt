use Rattle.std.proofs.Common.{true, sym, subst, refl}
use Rattle.nofs_history.specs.declared.machine.replies.Reply.{Reply}
use Rattle.nofs_state.proofs.OnCores.Unchanged.{goes-after, reads-keep}
use Rattle.nofs_names.specs.Drops.Answers.{DropGoes}
use Rattle.nofs_names.proofs.OnDrops.Contract.{drop-unowned}
use Rattle.nofs_names.proofs.OnDrops.Premises.{cleared-on}
use Rattle.nofs_names.proofs.OnDrops.Reads.{gone-on}
use Rattle.nofs_names.proofs.drops.steps.drop_file.Goals as goal

pub returns-in-Err : goal.returns-in-Err
returns-in-Err g c =
    drop-unowned (g.D.Disk.state c.args.core.now.disk) (g.D.Disk.state c.owned_blocks.new.disk) c.args.core.now.books
    c.args.it.pair.at.directory
    c.args.it.pair.at.generation c.args.it.pair.at.name.now c.args.it.pair.it c.args.it.pair.found
    (g.met.D.Disk.is_disk c.args.core.now.disk)
    c.requires.cleared.safe c.requires.cleared.going
    c.requires.cleared.finds c.in-Err.why c.owned_blocks.ensures.stays c.in-Err.ensures.no_fault
    c.in-Err.ensures.refused

pub remove_file-requires-clause-cleared : goal.remove_file-requires-clause-cleared
remove_file-requires-clause-cleared g c = cleared-on _ _ c.owned_blocks.ensures.stays _ _ c.requires.cleared

pub remove_file-requires-clause-loses : goal.remove_file-requires-clause-loses
remove_file-requires-clause-loses g c =
    gone-on (g.D.Disk.state c.args.core.now.disk) (g.D.Disk.state c.owned_blocks.new.disk) c.owned_blocks.ensures.stays
    c.args.core.now.books c.args.it.pair.at.directory c.args.it.pair.at.generation c.args.it.pair.found true
    c.requires.loses

pub returns-in-Ok : goal.returns-in-Ok
returns-in-Ok g c = subst (λ (r : Reply). DropGoes (g.D.Disk.state c.args.core.now.disk) c.args.core.now.books
    (g.D.Disk.state c.remove_file.new.core.disk) c.remove_file.new.core.books c.args.it.pair.at r)
    (sym c.dropped.ensures)
    (goes-after _ _ (reads-keep _ _ c.owned_blocks.ensures.stays) (c.in-Ok.ensures.no_fault refl) _ _ _ _ _ _
    c.remove_file.ensures)
