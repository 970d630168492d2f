use Rattle.std.proofs.Common.{◌+◌, ◌-◌, ◌/◌, refl, ap, ◌∙◌}
use Rattle.nofs_disk.specs.Chains.{StaysButFaults-trans}
use Rattle.nofs_files.specs.Puts.{sized}
use Rattle.nofs_files.proofs.OnPuts.OneBlock.{below-ends, later-cell}
use Rattle.nofs_files.proofs.OnPuts.Cells.{recorded}
use Rattle.nofs_files.proofs.OnPuts.LostBlocks.{ended}
use Rattle.nofs_files.proofs.OnPuts.Rooms.{goes-no-room, goes-unread-late, goes-untabled}
use Rattle.nofs_files.proofs.OnPuts.Books.{takes-one}
use Rattle.nofs_files.proofs.OnPuts.Missing.{below-asked}
use Rattle.nofs_files.proofs.puts.holes.put_below.Goals as goal

pub returns-in-Err : goal.returns-in-Err
returns-in-Err g c = ended c.refused.ensures (goes-no-room
    (below-asked (g.met.D.Disk.is_disk c.args.core.now.disk) c.requires.may c.requires.empty c.requires.rows
    c.requires.upper c.requires.path)
    c.in-Err.ensures.refused)

pub returns-in-Err-read_block : goal.returns-in-Err-read_block
returns-in-Err-read_block g c = ended c.refused-in-Err-read_block.ensures (goes-unread-late
    (below-asked (g.met.D.Disk.is_disk c.args.core.now.disk) c.requires.may c.requires.empty c.requires.rows
    c.requires.upper c.requires.path)
    c.in-Ok.ensures.room c.read_block.ensures.stays c.in-Err-read_block.ensures.cause)

pub returns-in-Err-read_table : goal.returns-in-Err-read_table
returns-in-Err-read_table g c = ended c.refused-in-Err-read_table.ensures (goes-untabled
    (below-asked (g.met.D.Disk.is_disk c.args.core.now.disk) c.requires.may c.requires.empty c.requires.rows
    c.requires.upper c.requires.path)
    c.in-Ok.ensures.room c.read_block.ensures.stays c.read_table.ensures.stays c.in-Err-read_table.ensures.refused)

pub returns : goal.returns
returns g c = below-ends
    (below-asked (g.met.D.Disk.is_disk c.args.core.now.disk) c.requires.may c.requires.empty c.requires.rows
    c.requires.upper c.requires.path)
    c.in-Ok.ensures.room
    (takes-one c.requires.may.safe c.in-Ok.ensures.found c.in-Ok.ensures.room c.claim_one-claims.ensures.claims
    c.claim_one-claims.ensures.books)
    (g.met.D.Disk.is_disk c.read_table.new.disk) (g.met.D.Disk.is_disk c.write_three.new.core.disk)
    (StaysButFaults-trans (g.D.Disk.state c.args.core.now.disk) (g.D.Disk.state c.read_block.new.disk)
    (g.D.Disk.state c.read_table.new.disk)
    c.read_block.ensures.stays c.read_table.ensures.stays)
    (c.in-Ok-read_table.ensures.no_fault ∙ c.in-Ok-read_block.ensures.no_fault)
    c.requires.upper c.requires.path (c.fill_content.ensures c.args.it.now.size) c.in-Ok-read_block.ensures.cell
    (record {
      here = c.write_pointer.ensures.written;
      others = λ q ne lt. c.write_pointer.ensures.others q ne lt;
      tag = refl;
    })
    (later-cell (g.D.Disk.state c.args.core.now.disk) (g.D.Disk.state c.read_block.new.disk) c.read_table.new.last.cell
    (1 + (c.args.put.now.inode - 1) / 4)
    c.read_block.ensures.stays c.in-Ok-read_table.ensures.cell)
    (recorded (c.sized.ensures ∙ ap (sized c.args.it.now) c.size_after.ensures) c.put_record.ensures)
    c.table_block-number.ensures
    c.write_three.ensures
