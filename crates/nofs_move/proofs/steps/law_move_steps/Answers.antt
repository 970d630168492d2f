use Rattle.nofs_move.proofs.MoveSteps.{law-steps, law-moved-steps}
use Rattle.nofs_move.proofs.Scripts.{law-command-run, law-command-begun}
use Rattle.nofs_move.proofs.steps.law_move_steps.Goals as goal

pub returns : goal.returns
returns c = record { linked = law-steps; moved = law-moved-steps; run = law-command-run; begun = law-command-begun }
