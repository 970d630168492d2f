use Rattle.std.proofs.Common.{arith}
use Rattle.nofs_reader.specs.Image.{image_disk-is}
use Rattle.nofs_reader.proofs.OnDisk.{writes}
use Rattle.nofs_reader.proofs.disk.ImageDiskDisk.write.Goals as goal

pub returns : goal.returns
returns c =
    let d = c.args.self.now in
    let more = c.saturating_add-self.ensures in
    let counted = d.counted in
    writes d.bytes.now d.refused d.spare d.faults c.saturating_add-self.result c.args._block c.args._cell.now
    (image_disk-is d.bytes.now d.refused d.spare d.faults d.room counted d.small) c.requires.spare
    (omega (arith, more, counted)) (omega (arith, more, counted))
