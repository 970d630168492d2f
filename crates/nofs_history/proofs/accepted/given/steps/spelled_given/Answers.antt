use Rattle.nofs_history.specs.Accepted.Given.{metas_of}
use Rattle.nofs_history.proofs.accepted.given.steps.spelled_given.Goals as goal

pub returns-clause-given : goal.returns-clause-given
returns-clause-given c = c.in_ok-cell.ensures.given (metas_of c.args.meta)
