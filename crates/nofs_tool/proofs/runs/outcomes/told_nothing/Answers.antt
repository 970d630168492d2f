use Rattle.nofs_tool.proofs.OnRuns.Said.{prints-nothing}
use Rattle.nofs_tool.proofs.runs.outcomes.told_nothing.Goals as goal

pub returns-clause-silent : goal.returns-clause-silent
returns-clause-silent g c = prints-nothing _ _ c.told.ensures.says
