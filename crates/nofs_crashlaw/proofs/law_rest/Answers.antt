use Rattle.nofs_crashlaw.proofs.OnHistories.Resting.{law-rest}
use Rattle.nofs_crashlaw.proofs.law_rest.Goals as goal

pub returns : goal.returns
returns c = law-rest
