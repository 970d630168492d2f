use Rattle.std.proofs.Common.{◌≡◌, ◌≤◌, ◌<◌, ℕ, slice_index}
use Rattle.nofs_pages.proofs.put_pages.PutPages.has_any.Given as goal

abbrev pub invariant-loop-at : goal.invariant-loop-at
invariant-loop-at l = (p : ℕ) → l.fn.first ≤ p → p < l.at → slice_index l.fn.self.pages.items p ≡ 0
