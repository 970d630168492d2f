use Rattle.nofs_model.proofs.OnSound.Writes.{law-sound}
use Rattle.nofs_model.proofs.laws.law_sound.Goals as goal

pub returns : goal.returns
returns c = law-sound
