use Rattle.std.proofs.Common.{refl, Ok, Err}
use Rattle.nofs_names.proofs.OnDrops.Premises.{removed-ends}
use Rattle.nofs_names.proofs.OnSteps.Parts.{goes-unread}
use Rattle.nofs_names.proofs.drops.removal.remove_file.Goals as goal

pub returns-in-Ok-write_two : goal.returns-in-Ok-write_two
returns-in-Ok-write_two g c = removed-ends _ _ _ c.args.core.now.books c.write_two.new.core.books c.free_all.new.books
    c.args.it c.read_block.new.last.cell
    c.with_record.new.table c.args.freed.now c.table_block-block.result (Ok tt)
    (g.met.D.Disk.is_disk c.read_block.new.disk)
    (g.met.D.Disk.is_disk c.write_two.new.core.disk) c.read_block.ensures.stays c.in-Ok.ensures.no_fault
    c.requires.cleared c.requires.loses
    c.table_block-block.ensures
    c.in-Ok.ensures.cell c.with_record.ensures c.requires.freed
    c.in-Ok-write_two.ensures (λ e. c.free_all.ensures) (λ why e. cc e)

pub returns-in-Err-write_two : goal.returns-in-Err-write_two
returns-in-Err-write_two g c =
    removed-ends _ _ _ c.args.core.now.books c.write_two.new.core.books c.write_two.new.core.books c.args.it
    c.read_block.new.last.cell c.with_record.new.table c.args.freed.now c.table_block-block.result
    (Err c.in-Err-write_two.why)
    (g.met.D.Disk.is_disk c.read_block.new.disk)
    (g.met.D.Disk.is_disk c.write_two.new.core.disk) c.read_block.ensures.stays c.in-Ok.ensures.no_fault
    c.requires.cleared
    c.requires.loses c.table_block-block.ensures c.in-Ok.ensures.cell c.with_record.ensures c.requires.freed
    c.in-Err-write_two.ensures (λ e. cc e)
    (λ why e. refl)

pub returns-in-Err : goal.returns-in-Err
returns-in-Err g c = goes-unread _ _ _ _ (g.met.D.Disk.is_disk c.args.core.now.disk) c.requires.cleared.safe
    c.requires.cleared.going c.read_block.ensures.stays c.in-Err.ensures.cause c.requires.cleared.finds.rows
