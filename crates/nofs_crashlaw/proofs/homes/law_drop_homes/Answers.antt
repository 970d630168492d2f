use Rattle.nofs_crashlaw.proofs.OnHomes.OldEntries.{law-drop-name-homes, law-drop-file-homes}
use Rattle.nofs_crashlaw.proofs.homes.law_drop_homes.Goals as goal

pub returns : goal.returns
returns c = record { name = law-drop-name-homes; file = law-drop-file-homes }
