use Rattle.nofs_history.proofs.Names.{names-stay}
use Rattle.nofs_crashlaw.proofs.law_names.Goals as goal

pub returns : goal.returns
returns c = names-stay
