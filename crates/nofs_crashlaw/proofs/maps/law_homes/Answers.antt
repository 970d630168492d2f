use Rattle.nofs_crashlaw.proofs.OnMaps.Homes.{law-homes, law-good}
use Rattle.nofs_crashlaw.proofs.maps.law_homes.Goals as goal

pub returns : goal.returns
returns c = record { homes = law-homes; good = law-good }
