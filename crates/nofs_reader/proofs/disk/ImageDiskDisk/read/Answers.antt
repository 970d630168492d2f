use Rattle.std.proofs.Common.{sym, ◌∙◌}
use Rattle.nofs_reader.proofs.OnDisk.{reads}
use Rattle.nofs_reader.proofs.disk.ImageDiskDisk.read.Goals as goal

pub returns-in-At-clause-reads : goal.returns-in-At-clause-reads
returns-in-At-clause-reads c =
    let d = c.args.self.now in
    reads d.bytes.now d.refused d.spare d.faults c.args.block c.read_cell.new.into c.requires
    (c.read_cell.ensures ∙ sym c.in-At.ensures.1.cell)

pub returns-in-Blank-clause-reads : goal.returns-in-Blank-clause-reads
returns-in-Blank-clause-reads c =
    let d = c.args.self.now in
    reads d.bytes.now d.refused d.spare d.faults c.args.block c.clear_cell.new.into c.requires
    (c.clear_cell.ensures ∙ sym c.in-Blank.ensures.cell)
