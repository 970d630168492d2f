use Rattle.nofs_crashlaw.proofs.OnMaps.Moves.{law-move, law-grow, law-shrink, law-bare}
use Rattle.nofs_crashlaw.proofs.maps.law_moves.Goals as goal

pub returns : goal.returns
returns c = record { touched = law-move; grows = law-grow; shrinks = law-shrink; bare = law-bare }
