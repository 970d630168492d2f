use Rattle.nofs_cases.proofs.OnNumbers.Verdicts.{unchanged-case, empty-run-case, stale-case}
use Rattle.nofs_cases.proofs.numbers.law_verdict_cases.Goals as goal

pub returns : goal.returns
returns c = record { unchanged = unchanged-case; empty = empty-run-case; stale = stale-case }
