use Rattle.nofs_mirror.proofs.OnPartCopy.{part_written}
use Rattle.nofs_mirror.proofs.copying.copy_cell.Goals as goal

pub returns-in-Ok-write-clause-part : goal.returns-in-Ok-write-clause-part
returns-in-Ok-write-clause-part g c =
    part_written c.args.block _ _ _ c.read.new.into c.in-Ok.ensures.cell
    (g.met.B.Disk.is_disk c.args.other.now) (g.met.B.Disk.is_disk c.write.new.self) c.write.result c.write.ensures

pub returns-in-Err-write-clause-part : goal.returns-in-Err-write-clause-part
returns-in-Err-write-clause-part g c =
    part_written c.args.block _ _ _ c.read.new.into c.in-Ok.ensures.cell
    (g.met.B.Disk.is_disk c.args.other.now) (g.met.B.Disk.is_disk c.write.new.self) c.write.result c.write.ensures
