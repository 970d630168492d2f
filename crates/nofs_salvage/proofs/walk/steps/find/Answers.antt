use Rattle.nofs_salvage.proofs.OnWalk.Refusals.{right-none}
use Rattle.nofs_salvage.proofs.walk.steps.find.Goals as goal

pub returns-in_err-name-clause-right : goal.returns-in_err-name-clause-right
returns-in_err-name-clause-right g c = λ W folder a ask leads. right-none W.files _
