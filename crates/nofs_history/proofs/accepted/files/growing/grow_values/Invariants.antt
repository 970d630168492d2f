use Rattle.std.proofs.Common.{◌≡◌, ℕ, ◌-◌, length, slice_get}
use Rattle.nofs_history.specs.Accepted.Files.{value_at}
use Rattle.nofs_history.proofs.accepted.files.growing.grow_values.Given as goal

abbrev pub invariant-loop-values : goal.invariant-loop-values
invariant-loop-values l =
    (k : ℕ) → value_at (slice_get l.values.items k) ≡ value_at (slice_get l.initial.values.items k)

abbrev pub decreases-loop-values : goal.decreases-loop-values
decreases-loop-values l = l.count - length l.values.items
