use Rattle.nofs_shared.proofs.OnLaws.LastFlush.{last-flush}
use Rattle.nofs_shared.proofs.laws.law_last_flush.Goals as goal

pub returns : goal.returns
returns c = last-flush
