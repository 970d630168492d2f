use Rattle.nofs_cases.proofs.OnLives.Moves.{directory-case, pair-case, move-case}
use Rattle.nofs_cases.proofs.lives.law_move_cases.Goals as goal

pub returns : goal.returns
returns c = record { directory = directory-case; pair = pair-case; moved = move-case }
