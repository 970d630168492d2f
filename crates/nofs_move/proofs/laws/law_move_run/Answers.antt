use Rattle.nofs_move.proofs.Moves.{law-is-move, law-one-name, law-new-name}
use Rattle.nofs_move.proofs.Left.{law-names-left}
use Rattle.nofs_move.proofs.laws.law_move_run.Goals as goal

pub returns : goal.returns
returns c = record { is_move = law-is-move; either = law-one-name; moved = law-new-name; left = law-names-left }
