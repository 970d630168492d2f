use Rattle.nofs_crashlaw.proofs.OnNames.Places.{law-entry-place}
use Rattle.nofs_crashlaw.proofs.homes.law_entry_place.Goals as goal

pub returns : goal.returns
returns c = law-entry-place
