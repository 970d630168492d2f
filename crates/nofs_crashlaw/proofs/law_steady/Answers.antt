use Rattle.nofs_crashlaw.proofs.OnHistories.Entries.{law-steady}
use Rattle.nofs_crashlaw.proofs.law_steady.Goals as goal

pub returns : goal.returns
returns g c = λ disk. law-steady (g.D.Disk.state disk)
