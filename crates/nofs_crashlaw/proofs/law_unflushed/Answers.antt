use Rattle.nofs_crashlaw.proofs.OnHistories.Unflushed.{law-unflushed}
use Rattle.nofs_crashlaw.proofs.law_unflushed.Goals as goal

pub returns : goal.returns
returns c = law-unflushed
