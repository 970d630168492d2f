use Rattle.nofs_crashlaw.proofs.OnLives.Values.{law-lives}
use Rattle.nofs_crashlaw.proofs.OnLives.Numbers.{law-once}
use Rattle.nofs_crashlaw.proofs.OnLives.Begin.{law-given}
use Rattle.nofs_crashlaw.proofs.lives.law_lives.Goals as goal

pub returns : goal.returns
returns c = record { values = law-lives; once = law-once; given = law-given }
