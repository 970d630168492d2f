use Rattle.std.proofs.Common.{◌≤◌}
use Rattle.nofs_state.specs.Books.Maps.{SetsFrom}
use Rattle.nofs_state.proofs.books.maps.all_from.Given as goal

abbrev pub invariant-loop-place : goal.invariant-loop-place
invariant-loop-place l = SetsFrom l.places l.from l.place l.bits × (l.from ≤ l.place)
