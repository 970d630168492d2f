use Rattle.std.proofs.Math.Logic.{∥∥₁_elim, ∥∥₁_prop}
use Rattle.nofs_shared.proofs.OnMount.Scans.{mount-scanned}
use Rattle.nofs_shared.proofs.mount.mount.Mount.counts.Goals as goal

pub returns-clause-scan : goal.returns-clause-scan
returns-clause-scan g c = λ q running all. ∥∥₁_elim c.args.self.now.stands ∥∥₁_prop (λ m.
    ∣ mount-scanned (g.D.Disk.state c.args.self.now.found.value)
    (g.D.Disk.state c.args.self.now.core.disk) c.args.self.now.first c.args.self.now.core.books
    (g.met.D.Disk.is_disk c.args.self.now.core.disk) m q running all ∣₁)
