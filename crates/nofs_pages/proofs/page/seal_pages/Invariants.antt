use Rattle.std.proofs.Common.{◌≡◌, length}
use Rattle.nofs_pages.specs.Pages.{HasPages}
use Rattle.nofs_pages.proofs.page.seal_pages.Given as goal

abbrev pub invariant-loop-at : goal.invariant-loop-at
invariant-loop-at l = (length l.raw ≡ length l.fn.raw) × HasPages l.areas l.first l.at l.raw
