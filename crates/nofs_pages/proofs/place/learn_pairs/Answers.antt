use Rattle.std.proofs.Common.{arith}
use Rattle.nofs_pages.proofs.OnPairs.{learns-next}
use Rattle.nofs_pages.proofs.place.learn_pairs.Goals as goal

pub loop-at-preserved : goal.loop-at-preserved
loop-at-preserved c =
    learns-next c.args.raw.now c.args.first c.loop-at.at c.version_of.result c.args.versions.now
    c.loop-at.versions c.note.new.self
    (omega arith) c.loop-at.invariant c.version_of.ensures c.note.ensures.here c.note.ensures.others
