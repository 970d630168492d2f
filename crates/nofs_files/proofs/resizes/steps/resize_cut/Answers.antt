use Rattle.std.proofs.Common.{ℕ, Ok, Err, refl, ap, ◌∙◌}
use Rattle.nofs_files.specs.Resizes.{cut_record}
use Rattle.nofs_files.proofs.OnPuts.Cells.{recorded}
use Rattle.nofs_files.proofs.OnResizes.Contract.{resize-ends, resize-unread}
use Rattle.nofs_files.proofs.resizes.steps.resize_cut.Goals as goal

pub returns-in-Err : goal.returns-in-Err
returns-in-Err g c = resize-unread (g.met.D.Disk.is_disk c.args.core.now.disk) c.requires.may c.read_table.ensures.stays
    c.in-Err.ensures.refused

pub returns-in-Ok-store_cut : goal.returns-in-Ok-store_cut
returns-in-Ok-store_cut g c = resize-ends {result = Ok tt} (g.met.D.Disk.is_disk c.read_table.new.disk)
    (g.met.D.Disk.is_disk c.store_cut.new.core.disk)
    c.read_table.ensures.stays c.in-Ok.ensures.no_fault
    c.requires.may c.in-Ok.ensures.cell
    (recorded (c.cut_record.ensures ∙ ap (λ (n : ℕ). cut_record c.args.it.now c.args.size n)
    c.kept_slots-kept.ensures.kept) c.put_record.ensures)
    c.table_block.ensures c.in-Ok-store_cut.ensures (λ e. c.free_blocks.ensures) (λ why e. cc e)

pub returns-in-Err-store_cut : goal.returns-in-Err-store_cut
returns-in-Err-store_cut g c =
    resize-ends {result = Err c.in-Err-store_cut.why} (g.met.D.Disk.is_disk c.read_table.new.disk)
    (g.met.D.Disk.is_disk c.store_cut.new.core.disk) c.read_table.ensures.stays c.in-Ok.ensures.no_fault
    c.requires.may c.in-Ok.ensures.cell
    (recorded (c.cut_record.ensures ∙ ap (λ (n : ℕ). cut_record c.args.it.now c.args.size n)
    c.kept_slots-kept.ensures.kept) c.put_record.ensures)
    c.table_block.ensures c.in-Err-store_cut.ensures (λ e. cc e) (λ why e. refl)
