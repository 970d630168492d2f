use Rattle.nofs_model.specs.Places.{AreFound}
use Rattle.nofs_model.proofs.scan.agreed_inodes.Given as goal

abbrev pub invariant-loop-place : goal.invariant-loop-place
invariant-loop-place l = AreFound l.cells l.place l.known.items
