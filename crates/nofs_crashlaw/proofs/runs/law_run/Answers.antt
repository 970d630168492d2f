use Rattle.nofs_crashlaw.proofs.OnRuns.Keeps.{law-directory, law-rooted, law-pair}
use Rattle.nofs_crashlaw.proofs.runs.law_run.Goals as goal

pub returns : goal.returns
returns c = record { directory = law-directory; rooted = law-rooted; pair = law-pair }
