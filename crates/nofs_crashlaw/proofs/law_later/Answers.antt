use Rattle.nofs_crashlaw.proofs.OnHistories.Later.{law-later}
use Rattle.nofs_crashlaw.proofs.law_later.Goals as goal

pub returns : goal.returns
returns c = law-later
