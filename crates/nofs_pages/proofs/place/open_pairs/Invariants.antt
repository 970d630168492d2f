use Rattle.std.proofs.Common.{◌≡◌, length}
use Rattle.std.specs.Prelude.{IsFalse}
use Rattle.nofs_pages.specs.Twins.{HasTwinAreas, HasTwinsTold, LearnsVersions}
use Rattle.nofs_pages.proofs.place.open_pairs.Given as goal

abbrev pub invariant-loop-at : goal.invariant-loop-at
invariant-loop-at l = record {
  len : length l.into ≡ length l.fn.into;
  areas : HasTwinAreas l.raw l.first l.at l.to l.fn.into l.into;
  told : IsFalse l.fresh → HasTwinsTold l.raw l.first l.at;
  learns : LearnsVersions l.raw l.first l.at l.fn.versions l.versions;
}
