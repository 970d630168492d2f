use Rattle.nofs_shared.proofs.OnLaws.After.{kept-after, settled-after, upgraded-after}
use Rattle.nofs_shared.proofs.laws.law_comes_after.Goals as goal

pub returns : goal.returns
returns g c = record {
  settled = settled-after g.D.Disk.state g.met.D.Disk.is_disk;
  kept = kept-after g.D.Disk.state g.met.D.Disk.is_disk;
  upgraded = upgraded-after g.D.Disk.state g.met.D.Disk.is_disk;
}
