use Rattle.nofs_shared.proofs.OnLaws.OneMount.{found-sound, mount-life, mount-raise, next-mount}
use Rattle.nofs_shared.proofs.laws.law_mount_life.Goals as goal

pub returns : goal.returns
returns g c = record {
  life = mount-life g.D.Disk.state g.met.D.Disk.is_disk;
  next = next-mount g.D.Disk.state g.met.D.Disk.is_disk;
  raise = mount-raise g.D.Disk.state g.met.D.Disk.is_disk;
  sound = found-sound g.D.Disk.state g.met.D.Disk.is_disk;
}
