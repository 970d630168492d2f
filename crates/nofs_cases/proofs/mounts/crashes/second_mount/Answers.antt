use Rattle.std.proofs.Common.{sym, subst}
use Rattle.nofs_memdisk.specs.declared.memory.MemDisk.{MemDisk}
use Rattle.nofs_cases.specs.Mounts.Two.{Crashed}
use Rattle.nofs_cases.proofs.mounts.crashes.second_mount.Goals as goal

pub returns-in-Ok : goal.returns-in-Ok
returns-in-Ok c = subst (λ (d : MemDisk). ∥ Crashed d ∥₁) (sym c.in-Ok.ensures.mount.0) c.in_ok-left.ensures
