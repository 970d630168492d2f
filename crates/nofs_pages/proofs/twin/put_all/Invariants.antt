use Rattle.std.proofs.Common.{◌≤◌, ◌-◌}
use Rattle.std.specs.Prelude.{IsTrue}
use Rattle.nofs_filedisk.specs.Bytes.{KeepsDurable}
use Rattle.nofs_pages.specs.Twins.{HasTwins, KnowsVersions, WritesTwins}
use Rattle.nofs_pages.proofs.twin.put_all.Given as goal

abbrev pub invariant-loop-at : goal.invariant-loop-at
invariant-loop-at g l = record {
  within : l.at ≤ l.count;
  keeps : KeepsDurable (g.B.Positioned.state l.fn.file) (g.B.Positioned.state l.file);
  known : KnowsVersions (g.B.Positioned.state l.file) l.versions;
  writes : IsTrue (g.B.Positioned.state l.fn.file).tells
      → WritesTwins (g.B.Positioned.state l.fn.file).bytes (g.B.Positioned.state l.file).bytes l.first l.at l.areas;
  twins : IsTrue (g.B.Positioned.state l.fn.file).tells
      → HasTwins (g.B.Positioned.state l.fn.file).bytes (g.B.Positioned.state l.file).bytes l.first l.at l.areas;
}

abbrev pub decreases-loop-at : goal.decreases-loop-at
decreases-loop-at g l = l.count - l.at
