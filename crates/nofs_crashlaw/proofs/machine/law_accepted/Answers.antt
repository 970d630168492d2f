use Rattle.nofs_crashlaw.proofs.OnLives.Era.{current-accepted}
use Rattle.nofs_crashlaw.proofs.machine.law_accepted.Goals as goal

pub returns : goal.returns
returns c = λ B H ok i f e. let current = current-accepted B H ok in (current.values i f e, current.meta i f e)
