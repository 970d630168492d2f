use Rattle.nofs_cases.proofs.OnSteps.Cut.{cut-case, cut-slot-case}
use Rattle.nofs_cases.proofs.OnNames.Leaf.{deep-make-case}
use Rattle.nofs_cases.proofs.OnNumbers.Refused.{kept-case}
use Rattle.nofs_cases.proofs.numbers.law_step_cases.Goals as goal

pub returns : goal.returns
returns c = record { cut = cut-case; slot = cut-slot-case; leaf = deep-make-case; kept = kept-case }
