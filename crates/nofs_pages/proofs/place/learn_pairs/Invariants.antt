use Rattle.nofs_pages.specs.Twins.{LearnsVersions}
use Rattle.nofs_pages.proofs.place.learn_pairs.Given as goal

abbrev pub invariant-loop-at : goal.invariant-loop-at
invariant-loop-at l = LearnsVersions l.raw l.first l.at l.fn.versions l.versions
