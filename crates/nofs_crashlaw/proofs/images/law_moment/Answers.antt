use Rattle.nofs_crashlaw.proofs.OnImages.Moments.{law-moment}
use Rattle.nofs_crashlaw.proofs.images.law_moment.Goals as goal

pub returns : goal.returns
returns c = law-moment
