use Rattle.nofs_model.proofs.OnSound.Formats.{formatted-law}
use Rattle.nofs_model.proofs.laws.law_formatted.Goals as goal

pub returns : goal.returns
returns c = formatted-law
