use Rattle.std.proofs.Common.{refl, ap, ◌∙◌}
use Rattle.nofs_files.specs.Puts.{sized}
use Rattle.nofs_files.proofs.OnPuts.Cells.{recorded}
use Rattle.nofs_files.proofs.OnPuts.LostBlocks.{ended}
use Rattle.nofs_files.proofs.OnPuts.Rooms.{goes-unpassed}
use Rattle.nofs_files.proofs.OnPuts.Direct.{place-ends}
use Rattle.nofs_files.proofs.puts.cells.put_in_place.Goals as goal

pub returns-in-Err : goal.returns-in-Err
returns-in-Err g c = ended c.refused.ensures
    (goes-unpassed (g.met.D.Disk.is_disk c.args.core.now.disk) c.requires.may c.requires.rows c.read_table.ensures.stays
    c.in-Err.ensures.refused)

pub returns : goal.returns
returns g c = place-ends (g.met.D.Disk.is_disk c.read_table.new.disk)
    (g.met.D.Disk.is_disk c.write_two.new.core.disk) c.read_table.ensures.stays c.in-Ok.ensures.no_fault
    c.requires.may c.requires.slot c.requires.held c.requires.cell c.put_content.ensures refl c.in-Ok.ensures.cell
    (recorded (c.sized.ensures ∙ ap (sized c.args.it.now) c.size_after.ensures) c.put_record.ensures)
    c.requires.rows c.table_block.ensures
    c.write_two.ensures
