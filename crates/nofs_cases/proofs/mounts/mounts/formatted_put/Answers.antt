use Rattle.std.proofs.Common.{refl}
use Rattle.std.proofs.Math.Logic.{∥∥₁_elim, ∥∥₁_prop}
use Rattle.nofs_memdisk.specs.Parts.{memory_state}
use Rattle.nofs_shared.specs.Mount.Invariant.{IsSoundDisk}
use Rattle.nofs_cases.proofs.OnMounts.Open.{both-steps, put-open}
use Rattle.nofs_cases.proofs.mounts.mounts.formatted_put.Goals as goal

pub returns-clause-open : goal.returns-clause-open
returns-clause-open c =
    let m = c.put_first.new.mount in
    let sound : IsSoundDisk (memory_state c.put_first.new.mount.found.value) =
    rw (c.put_first.ensures.found, c.see_free.ensures.found) c.in-Ok.ensures.found in
    let steps = both-steps 5 _ c.in-Ok.mount.core.books.history.entries c.see_free.new.mount.core.books.history.entries
    m.core.books.history.entries
    c.in-Ok.ensures.empty (c.if-not-see_free.ensures.adds refl) (c.if-not-put_first.ensures.adds refl) in
    ∥∥₁_elim m.stands ∥∥₁_prop
    (λ is. ∣ put-open c.law_homes.ensures.good (memory_state m.found.value) (memory_state m.core.disk)
    m.first m.core.books 5 _ is sound steps ∣₁)
