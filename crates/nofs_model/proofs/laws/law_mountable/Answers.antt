use Rattle.nofs_model.proofs.OnSound.Writes.{mountable-law}
use Rattle.nofs_model.proofs.laws.law_mountable.Goals as goal

pub returns : goal.returns
returns c = mountable-law
