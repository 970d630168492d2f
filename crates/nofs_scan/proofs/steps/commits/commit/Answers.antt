use Rattle.std.proofs.Common.{ℕ, false, subst}
use Rattle.std.proofs.lemmas.List.Elements.{All-get_or}
use Rattle.nofs_state.specs.Books.Verdicts.{OffersVerdict}
use Rattle.nofs_scan.specs.Steps.Elements.{IsRight, learned, verdict_at, verdict_of}
use Rattle.nofs_scan.proofs.OnSteps.Commits.{commits}
use Rattle.nofs_scan.proofs.steps.commits.commit.Goals as goal

pub returns-clause-commits : goal.returns-clause-commits
returns-clause-commits g c =
    commits (g.D.Disk.state c.args.evidence.now.core.value.disk) c.args.evidence.now.core.value.books
    (g.D.Disk.state c.args.core.now.disk) c.args.core.now.books c.args.evidence.now.kind
    (verdict_at c.args.evidence.now.verdicts c.args.at) c.args.used
    (g.met.D.Disk.is_disk c.args.core.now.disk) c.args.evidence.now.safe c.requires.safe c.requires.going
    (All-get_or (IsRight (g.D.Disk.state c.args.evidence.now.core.value.disk) c.args.evidence.now.core.value.books
    c.args.evidence.now.kind)
    c.args.evidence.now.verdicts c.args.at
    (record { item = 0; used = false }) c.requires.within c.args.evidence.now.right)
    c.requires.verdict c.requires.numbers c.settle.new.books c.settle.result
    (subst (λ (i : ℕ). OffersVerdict c.args.core.now.books c.settle.new.books
    (verdict_of c.args.evidence.now.kind c.args.core.now.books i)
    (learned c.args.evidence.now.kind c.args.core.now.books i) c.args.used c.settle.result)
    c.item-item.ensures c.settle.ensures)
