use Rattle.nofs_pages.proofs.OnPairs.{known-learned}
use Rattle.nofs_pages.proofs.twin.Twin.show_row.Goals as goal

pub invariant_of-self-2-clause-known : goal.invariant_of-self-2-clause-known
invariant_of-self-2-clause-known g c =
    let did = c.in_ok-read_pairs.ensures in
    let old = c.args.self.now in
    known-learned (g.B.Positioned.state old.file) (g.B.Positioned.state c.read_pairs.new.file) old.versions
    c.open_row.new.versions c.read_pairs.new.into.items c.args.first c.args.count did.keeps did.part old.known
    c.open_row.ensures.learns
