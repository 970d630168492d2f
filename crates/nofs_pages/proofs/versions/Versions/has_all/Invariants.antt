use Rattle.std.proofs.Common.{◌<◌, ◌≤◌, ℕ, slice_index}
use Rattle.nofs_pages.proofs.versions.Versions.has_all.Given as goal

abbrev pub invariant-loop-at : goal.invariant-loop-at
invariant-loop-at l = (p : ℕ) → l.fn.first ≤ p → p < l.at → 0 < slice_index l.fn.self.next.items p
