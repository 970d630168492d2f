use Rattle.nofs_cases.proofs.OnSteps.Maps.{homes-case, good-case, moves-case, grow-case, shrink-case, fresh-case}
use Rattle.nofs_cases.proofs.OnSteps.Maps.{pieces-case}
use Rattle.nofs_cases.proofs.steps.law_state_cases.Goals as goal

pub returns : goal.returns
returns c = record {
  homes = homes-case;
  good = good-case;
  moves = moves-case;
  grow = grow-case;
  shrink = shrink-case;
  fresh = fresh-case;
  pieces =
      pieces-case;
}
