use Rattle.nofs_crashlaw.proofs.OnNames.OldLaws.{law-rename}
use Rattle.nofs_crashlaw.proofs.names.old_names.law_rename.Goals as goal

pub returns : goal.returns
returns c = law-rename
