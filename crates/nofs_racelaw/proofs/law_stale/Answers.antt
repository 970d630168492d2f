use Rattle.nofs_racelaw.proofs.Stale.{law-passes, law-stale}
use Rattle.nofs_racelaw.proofs.law_stale.Goals as goal

pub returns : goal.returns
returns c = record { passes = law-passes; stale = law-stale }
