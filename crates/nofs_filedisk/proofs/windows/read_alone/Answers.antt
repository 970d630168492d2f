use Rattle.nofs_filedisk.proofs.OnWindows.{cell-alone}
use Rattle.nofs_filedisk.proofs.windows.read_alone.Goals as goal

pub returns-clause-cell : goal.returns-clause-cell
returns-clause-cell g c tells =
    cell-alone (g.B.Positioned.state c.args.file.now).bytes c.read_part.new.into c.args.block c.copy_cell.new.into
    c.read_part.ensures.len
    (c.in_ok-read_part.ensures.part tells)
    c.copy_cell.ensures.payload c.copy_cell.ensures.tag
