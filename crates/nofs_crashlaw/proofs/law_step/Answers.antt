use Rattle.nofs_crashlaw.proofs.OnHistories.Entries.{step-allowed}
use Rattle.nofs_crashlaw.proofs.law_step.Goals as goal

pub returns : goal.returns
returns c = step-allowed
