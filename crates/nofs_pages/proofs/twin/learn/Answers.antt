use Rattle.std.proofs.Common.{List, subst, ℕ}
use Rattle.nofs_pages.specs.Twins.{LearnsVersions}
use Rattle.nofs_pages.proofs.OnPairs.{known-learned}
use Rattle.nofs_pages.proofs.twin.learn.Goals as goal

pub returns-in_ok-read_pairs-clause-known : goal.returns-in_ok-read_pairs-clause-known
returns-in_ok-read_pairs-clause-known g c =
    let did = c.in_ok-read_pairs.ensures in
    let F : List ℕ → Type 0 =
    λ l. LearnsVersions l c.args.first c.args.count c.args.versions.now c.learn_pairs.new.versions in
    known-learned (g.B.Positioned.state c.args.file.now)
    (g.B.Positioned.state c.read_pairs.new.file) c.args.versions.now
    c.learn_pairs.new.versions c.read_pairs.new.into.items c.args.first c.args.count did.keeps did.part c.requires.known
    (subst F c.as_slice.ensures.value c.learn_pairs.ensures)
