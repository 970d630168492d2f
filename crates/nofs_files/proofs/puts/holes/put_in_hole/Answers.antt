use Rattle.std.proofs.Common.{ℕ, ap, ◌∙◌}
use Rattle.nofs_disk.specs.Chains.{StaysButFaults-refl}
use Rattle.nofs_files.specs.Puts.{pointed}
use Rattle.nofs_files.proofs.OnPuts.Cells.{recorded}
use Rattle.nofs_files.proofs.OnPuts.LostBlocks.{ended}
use Rattle.nofs_files.proofs.OnPuts.Rooms.{goes-no-room, goes-untabled}
use Rattle.nofs_files.proofs.OnPuts.Books.{takes-one}
use Rattle.nofs_files.proofs.OnPuts.Direct.{direct-ends}
use Rattle.nofs_files.proofs.OnPuts.Missing.{direct-asked}
use Rattle.nofs_files.proofs.puts.holes.put_in_hole.Goals as goal

pub returns-in-Err : goal.returns-in-Err
returns-in-Err g c = ended c.refused.ensures (goes-no-room
    (direct-asked (g.met.D.Disk.is_disk c.args.core.now.disk) c.requires.may c.requires.empty c.requires.rows
    c.requires.direct)
    c.in-Err.ensures.refused)

pub returns-in-Err-read_table : goal.returns-in-Err-read_table
returns-in-Err-read_table g c = ended c.refused-in-Err-read_table.ensures (goes-untabled
    (direct-asked (g.met.D.Disk.is_disk c.args.core.now.disk) c.requires.may c.requires.empty c.requires.rows
    c.requires.direct)
    c.in-Ok.ensures.room (StaysButFaults-refl (g.D.Disk.state c.args.core.now.disk)) c.read_table.ensures.stays
    c.in-Err-read_table.ensures.refused)

pub returns : goal.returns
returns g c = direct-ends
    (direct-asked (g.met.D.Disk.is_disk c.args.core.now.disk) c.requires.may c.requires.empty c.requires.rows
    c.requires.direct)
    c.in-Ok.ensures.room
    (takes-one c.requires.may.safe c.in-Ok.ensures.found c.in-Ok.ensures.room c.claim_one-claims.ensures.claims
    c.claim_one-claims.ensures.books)
    (g.met.D.Disk.is_disk c.read_table.new.disk)
    (g.met.D.Disk.is_disk c.write_two.new.core.disk) c.read_table.ensures.stays
    c.in-Ok-read_table.ensures.no_fault c.requires.direct
    c.requires.may.eight (c.fill_content.ensures c.args.it.now.size) c.in-Ok-read_table.ensures.cell
    (recorded (c.pointed-it.ensures ∙ ap
    (λ (n : ℕ). pointed c.args.it.now n c.args.put.now.slot c.claim_one-claims.result.cell) c.size_after.ensures)
    c.put_record.ensures) c.table_block.ensures c.write_two.ensures
