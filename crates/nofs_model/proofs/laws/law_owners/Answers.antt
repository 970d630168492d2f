use Rattle.nofs_model.proofs.OnOwners.Meanings.{owners-law}
use Rattle.nofs_model.proofs.laws.law_owners.Goals as goal

pub returns : goal.returns
returns c = owners-law
