use Rattle.nofs_upgrade.proofs.OnLaws.{law-again, law-between, law-sound}
use Rattle.nofs_upgrade.proofs.laws.law_upgrade.Goals as goal

pub returns : goal.returns
returns g c = record {
  sound = λ old new. law-sound (g.D.Disk.state old) (g.D.Disk.state new);
  between = λ old new. law-between (g.D.Disk.state old) (g.D.Disk.state new);
  again = law-again;
}
