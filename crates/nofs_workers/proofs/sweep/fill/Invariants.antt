use Rattle.std.proofs.Common.{◌≡◌, ℕ, ◌+◌, ◌^◌, ◌<◌, length, get_or}
use Rattle.nofs_history.specs.declared.machine.steps.ElementKind.TheVariants.{Inode}
use Rattle.nofs_workers.specs.Sweep.{IsOrdered}
use Rattle.nofs_workers.proofs.sweep.fill.Given as goal

abbrev pub invariant-loop-at : goal.invariant-loop-at
invariant-loop-at g l =
    (length l.into ≡ length l.fn.into)
    × ((k : ℕ) → k < l.at → IsOrdered (g.O.Course.has_item l.order) l.kind (l.place + k) (get_or l.into k 0))
    × ((k : ℕ) → k < l.at → l.kind ≡ Inode → get_or l.into k 0 < 2 ^ 32)
