use Rattle.std.proofs.Common.{◌≡◌, ◌+◌, ◌⊎◌, ◌≤◌, ◌<◌, ℕ, length, slice_index}
use Rattle.nofs_pages.proofs.put_pages.PutPages.add.Given as goal

abbrev pub invariant-loop-at : goal.invariant-loop-at
invariant-loop-at l =
    (l.fn.first + l.fn.count ≤ length l.self.pages.items)
    × ((p : ℕ) → l.fn.first ≤ p → p < l.at → slice_index l.self.pages.items p ≡ 1)
    × ((p : ℕ) → (p < l.fn.first) ⊎ (l.fn.first + l.fn.count ≤ p)
    → slice_index l.self.pages.items p ≡ slice_index l.fn.self.pages.items p)
