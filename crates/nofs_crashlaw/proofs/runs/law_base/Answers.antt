use Rattle.nofs_crashlaw.proofs.OnRuns.Mounted.{law-mounted}
use Rattle.nofs_crashlaw.proofs.runs.law_base.Goals as goal

pub returns : goal.returns
returns c = record { mounted = law-mounted }
