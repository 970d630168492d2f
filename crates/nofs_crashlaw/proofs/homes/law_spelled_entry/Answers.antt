use Rattle.nofs_dirent.specs.EntryLaws.{spelled_entry-spells}
use Rattle.nofs_crashlaw.proofs.homes.law_spelled_entry.Goals as goal

pub returns : goal.returns
returns c = spelled_entry-spells
