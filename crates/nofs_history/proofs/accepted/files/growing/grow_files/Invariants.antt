use Rattle.std.proofs.Common.{◌≡◌, ℕ, ◌-◌, length, slice_get}
use Rattle.nofs_history.specs.Accepted.Files.{file_at}
use Rattle.nofs_history.proofs.accepted.files.growing.grow_files.Given as goal

abbrev pub invariant-loop-files : goal.invariant-loop-files
invariant-loop-files l = (k : ℕ) → file_at (slice_get l.files.items k) ≡ file_at (slice_get l.initial.files.items k)

abbrev pub decreases-loop-files : goal.decreases-loop-files
decreases-loop-files l = l.count - length l.files.items
