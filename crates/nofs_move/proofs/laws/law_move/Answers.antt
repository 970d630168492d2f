use Rattle.nofs_crashlaw.proofs.OnPaths.Moves.{law-move, law-moved}
use Rattle.nofs_crashlaw.proofs.OnPaths.Alone.{law-alone}
use Rattle.nofs_move.proofs.laws.law_move.Goals as goal

pub returns : goal.returns
returns c = record { either = law-move; moved = law-moved; alone = law-alone }
