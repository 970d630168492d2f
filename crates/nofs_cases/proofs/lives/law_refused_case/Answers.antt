use Rattle.nofs_cases.proofs.OnLives.Refused.{refused-case}
use Rattle.nofs_cases.proofs.lives.law_refused_case.Goals as goal

pub returns : goal.returns
returns c = refused-case
