use Rattle.std.proofs.Common.{true, false, sym, subst}
use Rattle.nofs_history.specs.declared.machine.replies.Reply.{Reply}
use Rattle.nofs_state.proofs.OnCores.Unchanged.{goes-after, reads-keep}
use Rattle.nofs_names.specs.Drops.Answers.{DropGoes}
use Rattle.nofs_names.proofs.OnDrops.Contract.{drop-unread}
use Rattle.nofs_names.proofs.OnDrops.Premises.{cleared-on, kept-on}
use Rattle.nofs_names.proofs.drops.steps.drop_cleared.Goals as goal

pub returns-in-Err : goal.returns-in-Err
returns-in-Err g c =
    drop-unread (g.D.Disk.state c.args.core.now.disk) (g.D.Disk.state c.keeps_name.new.disk) c.args.core.now.books
    c.args.it.pair.at.directory c.args.it.pair.at.generation c.args.it.pair.at.name.now c.args.it.pair.it
    c.args.it.pair.found
    (g.met.D.Disk.is_disk c.args.core.now.disk) c.requires.safe c.requires.going c.requires.finds
    c.keeps_name.ensures.stays c.in-Err.ensures.cause

pub drop_link-requires-clause-cleared : goal.drop_link-requires-clause-cleared
drop_link-requires-clause-cleared g c = cleared-on _ _ c.keeps_name.ensures.stays _ _ c.requires

pub drop_file-requires-clause-cleared : goal.drop_file-requires-clause-cleared
drop_file-requires-clause-cleared g c = cleared-on _ _ c.keeps_name.ensures.stays _ _ c.requires

-- whether another name is left
pub drop_link-requires-clause-keeps : goal.drop_link-requires-clause-keeps
drop_link-requires-clause-keeps g c =
    kept-on _ _ _ c.args.it (g.met.D.Disk.is_disk c.args.core.now.disk) c.requires c.keeps_name.ensures.stays
    c.without_name-rest.result c.keeps_name.new.last c.in-Ok-true.field-0 true
    c.without_name-rest.ensures c.in-Ok-true.ensures c.in-Ok-true.field-0-test

pub drop_file-requires-clause-loses : goal.drop_file-requires-clause-loses
drop_file-requires-clause-loses g c =
    kept-on _ _ _ c.args.it (g.met.D.Disk.is_disk c.args.core.now.disk) c.requires c.keeps_name.ensures.stays
    c.without_name-rest.result c.keeps_name.new.last c.in-Ok-false.field-0 false
    c.without_name-rest.ensures c.in-Ok-false.ensures c.in-Ok-false.field-0-test

pub returns-in-Ok-true : goal.returns-in-Ok-true
returns-in-Ok-true g c = subst (λ (r : Reply). DropGoes (g.D.Disk.state c.args.core.now.disk) c.args.core.now.books
    (g.D.Disk.state c.drop_link.new.core.disk) c.drop_link.new.core.books c.args.it.pair.at r) (sym c.dropped.ensures)
    (goes-after _ _ (reads-keep _ _ c.keeps_name.ensures.stays) c.in-Ok-true.ensures.no_fault _ _ _ _ _ _
    c.drop_link.ensures)

pub returns-in-Ok-false : goal.returns-in-Ok-false
returns-in-Ok-false g c = goes-after _ _ (reads-keep _ _ c.keeps_name.ensures.stays) c.in-Ok-false.ensures.no_fault
    _ _ _ _ _ _ c.drop_file.ensures
