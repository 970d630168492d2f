use Rattle.nofs_crashlaw.proofs.OnImages.Moments.{law-images}
use Rattle.nofs_crashlaw.proofs.images.law_images.Goals as goal

pub returns : goal.returns
returns c = law-images
