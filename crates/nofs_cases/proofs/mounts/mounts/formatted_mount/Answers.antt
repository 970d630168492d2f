use Rattle.std.proofs.Common.{sym, subst}
use Rattle.std.proofs.Math.Logic.{∥∥₁_elim, ∥∥₁_prop}
use Rattle.nofs_memdisk.specs.Parts.{memory_state}
use Rattle.nofs_memdisk.specs.declared.memory.MemDisk.{MemDisk}
use Rattle.nofs_shared.specs.Mount.Invariant.{IsSoundDisk}
use Rattle.nofs_cases.proofs.OnMounts.Open.{begun-open}
use Rattle.nofs_cases.proofs.mounts.mounts.formatted_mount.Goals as goal

pub returns-in-Ok-begin-clause-open : goal.returns-in-Ok-begin-clause-open
returns-in-Ok-begin-clause-open c =
    let m = c.in-Ok-begin.mount in
    let begun = c.in-Ok-begin.ensures.mount in
    let sound : IsSoundDisk (memory_state m.found.value) =
    subst (λ (d : MemDisk). IsSoundDisk (memory_state d)) (sym begun.0) c.in-Ok.ensures.sound in
    ∥∥₁_elim m.stands ∥∥₁_prop
    (λ is. ∣ begun-open c.law_homes.ensures.good (memory_state m.found.value) (memory_state m.core.disk)
    m.first m.core.books is sound begun.2 ∣₁)
