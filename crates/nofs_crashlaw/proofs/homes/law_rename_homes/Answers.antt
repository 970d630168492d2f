use Rattle.nofs_crashlaw.proofs.OnHomes.OldEntries.{law-rename-homes}
use Rattle.nofs_crashlaw.proofs.homes.law_rename_homes.Goals as goal

pub returns : goal.returns
returns c = law-rename-homes
