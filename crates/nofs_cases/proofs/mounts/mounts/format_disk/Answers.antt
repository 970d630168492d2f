use Rattle.nofs_cases.proofs.OnMounts.Formats.{blank-formatted, sound-formatted}
use Rattle.nofs_cases.proofs.mounts.mounts.format_disk.Goals as goal

pub returns : goal.returns
returns g c =
    let sound = sound-formatted c.law_formatted.ensures c.args.blocks c.args.inodes (g.D.Disk.state c.args.disk.now)
    (g.D.Disk.state c.format.new.disk)
    c.format.result
    c.format.ensures.adds.disk c.format.ensures.ends c.format.ensures.cells in
    record {
      sound = sound;
      blank = blank-formatted (g.D.Disk.state c.args.disk.now) (g.D.Disk.state c.format.new.disk)
          (c.law_mounts.ensures.first c.args.disk.now c.format.new.disk) c.args.blocks c.args.inodes c.format.result
          c.format.ensures.ends sound;
    }
