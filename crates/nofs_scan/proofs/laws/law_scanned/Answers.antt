use Rattle.nofs_scan.proofs.OnLaws.{scanned}
use Rattle.nofs_scan.proofs.laws.law_scanned.Goals as goal

pub returns : goal.returns
returns g c =
    scanned (g.D.Disk.state c.args.core.now.disk) c.args.core.now.books (g.met.D.Disk.is_disk c.args.core.now.disk)
