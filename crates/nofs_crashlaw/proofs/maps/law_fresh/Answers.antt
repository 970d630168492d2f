use Rattle.nofs_crashlaw.proofs.OnMaps.Fresh.{law-fresh, law-old}
use Rattle.nofs_crashlaw.proofs.maps.law_fresh.Goals as goal

pub returns : goal.returns
returns c = record { fresh = law-fresh; old = law-old }
