use Rattle.std.proofs.Common.{◌≡◌, ◌<◌, ◌≤◌, false, ℕ}
use Rattle.nofs_dirent.specs.Entries.{has_name}
use Rattle.nofs_dirent.proofs.entry.find_name.Given as goal

abbrev pub invariant-loop-at : goal.invariant-loop-at
invariant-loop-at l = (k : ℕ) → l.from ≤ k → k < l.at → has_name l.payload l.name k ≡ false
