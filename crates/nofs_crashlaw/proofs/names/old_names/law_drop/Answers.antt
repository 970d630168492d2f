use Rattle.nofs_crashlaw.proofs.OnNames.OldLaws.{law-drop-entry, law-drop-name, law-drop-file}
use Rattle.nofs_crashlaw.proofs.names.old_names.law_drop.Goals as goal

pub returns : goal.returns
returns c = record { entry = law-drop-entry; name = law-drop-name; file = law-drop-file }
