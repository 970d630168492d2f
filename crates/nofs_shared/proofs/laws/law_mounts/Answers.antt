use Rattle.nofs_shared.proofs.OnMount.Formats.{first-disk}
use Rattle.nofs_shared.proofs.OnLaws.Lives.{mount-contents, mount-lives, mount-once}
use Rattle.nofs_shared.proofs.laws.law_mounts.Goals as goal

pub returns : goal.returns
returns g c = record {
  first = λ old new. first-disk (g.D.Disk.state old) (g.D.Disk.state new);
  lives = mount-lives g.D.Disk.state g.met.D.Disk.is_disk;
  once = mount-once g.D.Disk.state g.met.D.Disk.is_disk;
  contents = mount-contents g.D.Disk.state g.met.D.Disk.is_disk;
}
