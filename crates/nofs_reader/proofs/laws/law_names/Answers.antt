use Rattle.nofs_reader.proofs.OnLaws.{names-are}
use Rattle.nofs_reader.proofs.laws.law_names.Goals as goal

pub returns : goal.returns
returns c = names-are
