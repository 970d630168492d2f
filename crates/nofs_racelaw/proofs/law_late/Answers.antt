use Rattle.nofs_racelaw.proofs.OneRun.{law-late, law-one-run}
use Rattle.nofs_racelaw.proofs.law_late.Goals as goal

pub returns : goal.returns
returns c = record { one = law-one-run; late = law-late }
