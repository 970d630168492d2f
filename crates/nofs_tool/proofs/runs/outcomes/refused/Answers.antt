use Rattle.nofs_tool.specs.Begin.Lines.{cause_line}
use Rattle.nofs_tool.proofs.OnRuns.Said.{silent-cause}
use Rattle.nofs_tool.proofs.runs.outcomes.refused.Goals as goal

pub returns-clause-says : goal.returns-clause-says
returns-clause-says g c = c.told_line.ensures.says (cause_line c.args.refused.cause) c.cause_text.ensures

pub returns-clause-silent : goal.returns-clause-silent
returns-clause-silent g c = silent-cause c.args.refused.cause _ _ _ _ c.told_line.ensures.is.0 c.status_of.ensures
    (c.told_line.ensures.says (cause_line c.args.refused.cause) c.cause_text.ensures)
