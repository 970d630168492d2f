use Rattle.std.proofs.Common.{arith}
use Rattle.nofs_reader.specs.Image.{image_disk-is}
use Rattle.nofs_reader.proofs.OnDisk.{flushes}
use Rattle.nofs_reader.proofs.disk.ImageDiskDisk.flush.Goals as goal

pub returns : goal.returns
returns c =
    let d = c.args.self.now in
    let more = c.saturating_add-self.ensures in
    let counted = d.counted in
    flushes d.bytes.now d.refused d.spare d.faults c.saturating_add-self.result
    (image_disk-is d.bytes.now d.refused d.spare d.faults d.room counted d.small) c.requires
    (omega (arith, more, counted)) (omega (arith, more, counted))
