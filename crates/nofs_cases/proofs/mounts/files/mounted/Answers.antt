use Rattle.std.proofs.Common.{sym, subst}
use Rattle.std.proofs.Math.Logic.{∥∥₁_elim, ∥∥₁_prop}
use Rattle.nofs_shared.specs.Mount.Invariant.{IsSoundDisk}
use Rattle.nofs_cases.proofs.OnMounts.Open.{begun-open}
use Rattle.nofs_cases.proofs.mounts.files.mounted.Goals as goal

pub returns-in-Ok-clause-open : goal.returns-in-Ok-clause-open
returns-in-Ok-clause-open g c sound =
    let m = c.in-Ok.mount in
    let begun = c.in-Ok.ensures.mount in
    let S = g.D.Disk.state in
    let held : IsSoundDisk (S m.found.value) = subst (λ (d : g.row.D.Denot). IsSoundDisk (S d)) (sym begun.0) sound in
    ∥∥₁_elim m.stands ∥∥₁_prop (λ is. ∣ begun-open c.law_homes.ensures.good (S m.found.value)
    (S m.core.disk) m.first m.core.books is held begun.2 ∣₁)
