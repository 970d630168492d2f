use Rattle.std.proofs.Common.{◌≡◌, length}
use Rattle.std.specs.Prelude.{IsFalse}
use Rattle.nofs_pages.specs.Pages.{HasAreas, HasTold}
use Rattle.nofs_pages.proofs.page.open_pages.Given as goal

abbrev pub invariant-loop-at : goal.invariant-loop-at
invariant-loop-at l =
    (length l.into ≡ length l.fn.into) × HasAreas l.raw l.first l.at l.to l.fn.into l.into
    × (IsFalse l.fresh → HasTold l.raw l.first l.at)
