use Rattle.nofs_crashlaw.proofs.OnMachine.Total.{law-total}
use Rattle.nofs_crashlaw.proofs.OnMachine.Function.{law-function}
use Rattle.nofs_crashlaw.proofs.machine.law_next.Goals as goal

pub returns-clause-total : goal.returns-clause-total
returns-clause-total c = law-total

pub returns-clause-function : goal.returns-clause-function
returns-clause-function c = law-function
