use Rattle.nofs_cases.proofs.OnCrashes.Put.{first-stage-case}
use Rattle.nofs_cases.proofs.OnCrashes.Stages.{stage-case, idle-stage-case, steady-case, flush-stage-case}
use Rattle.nofs_cases.proofs.crashes.law_stage_cases.Goals as goal

pub returns : goal.returns
returns c = record {
  first = first-stage-case;
  stage = stage-case;
  idle = idle-stage-case;
  steady = steady-case;
  flush = flush-stage-case;
}
