use Rattle.std.proofs.Common.{ℕ, ap, ◌∙◌}
use Rattle.nofs_disk.specs.Chains.{StaysButFaults-refl}
use Rattle.nofs_files.specs.Puts.{rooted}
use Rattle.nofs_files.proofs.OnPuts.Cells.{recorded}
use Rattle.nofs_files.proofs.OnPuts.LostBlocks.{ended}
use Rattle.nofs_files.proofs.OnPuts.Rooms.{goes-no-room, goes-untabled}
use Rattle.nofs_files.proofs.OnPuts.Books.{takes-two}
use Rattle.nofs_files.proofs.OnPuts.PointerBlocks.{leaf-ends}
use Rattle.nofs_files.proofs.OnPuts.Missing.{leaf-asked}
use Rattle.nofs_files.proofs.puts.holes.put_with_leaf.Goals as goal

pub returns-in-Err : goal.returns-in-Err
returns-in-Err g c = ended c.refused.ensures (goes-no-room (leaf-asked (g.met.D.Disk.is_disk c.args.core.now.disk)
    c.requires.may c.requires.empty c.requires.rows c.requires.path c.requires.hole) c.in-Err.ensures.refused)

pub returns-in-Err-read_table : goal.returns-in-Err-read_table
returns-in-Err-read_table g c = ended c.refused-in-Err-read_table.ensures (goes-untabled
    (leaf-asked (g.met.D.Disk.is_disk c.args.core.now.disk) c.requires.may c.requires.empty c.requires.rows
    c.requires.path c.requires.hole) c.in-Ok.ensures.room (StaysButFaults-refl (g.D.Disk.state c.args.core.now.disk))
    c.read_table.ensures.stays c.in-Err-read_table.ensures.refused)

pub returns : goal.returns
returns g c = leaf-ends (g.met.D.Disk.is_disk c.read_table.new.disk)
    (g.met.D.Disk.is_disk c.write_three.new.core.disk) c.read_table.ensures.stays
    c.in-Ok-read_table.ensures.no_fault c.in-Ok-read_table.ensures.cell c.table_block-number.ensures
    (leaf-asked (g.met.D.Disk.is_disk c.args.core.now.disk)
    c.requires.may c.requires.empty c.requires.rows c.requires.path c.requires.hole) c.in-Ok.ensures.room
    (takes-two c.requires.may.safe c.in-Ok.ensures.found c.in-Ok.ensures.room c.claim_two-claims.ensures.claims
    c.claim_two-claims.ensures.books)
    c.requires.path c.requires.hole (c.fill_content.ensures c.args.it.now.size) c.fill_pointers.ensures
    (recorded (c.rooted-it.ensures ∙ ap (λ (n : ℕ). rooted c.args.it.now n 8 c.claim_two-claims.result.leaf)
    c.size_after.ensures)
    c.put_record.ensures) c.write_three.ensures
