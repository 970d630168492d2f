use Rattle.nofs_racelaw.proofs.Verdicts.{run-unchanged}
use Rattle.nofs_racelaw.proofs.law_unchanged.Goals as goal

pub returns : goal.returns
returns c = λ es start W V r. (run-unchanged es start W V r).0
