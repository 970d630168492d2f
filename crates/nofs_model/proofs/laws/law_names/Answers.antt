use Rattle.nofs_model.proofs.OnFiles.Meanings.{names-law}
use Rattle.nofs_model.proofs.laws.law_names.Goals as goal

pub returns : goal.returns
returns c = names-law
