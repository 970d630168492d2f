use Rattle.std.proofs.Math.Logic.{∥∥₁_elim, ∥∥₁_prop}
use Rattle.nofs_shared.proofs.OnMount.End.{mount-ends}
use Rattle.nofs_shared.proofs.mount.mount.Mount.end.Goals as goal

pub returns-clause-ends : goal.returns-clause-ends
returns-clause-ends g c = ∥∥₁_elim c.args.self.stands ∥∥₁_prop
    (λ m. ∣ mount-ends (g.D.Disk.state c.args.self.found.value)
    (g.D.Disk.state c.args.self.core.disk) c.args.self.first c.args.self.core.books m ∣₁)
