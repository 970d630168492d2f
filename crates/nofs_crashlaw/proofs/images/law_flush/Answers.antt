use Rattle.nofs_crashlaw.proofs.OnImages.Moments.{law-flush}
use Rattle.nofs_crashlaw.proofs.images.law_flush.Goals as goal

pub returns : goal.returns
returns c = law-flush
