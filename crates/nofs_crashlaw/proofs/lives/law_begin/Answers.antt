use Rattle.nofs_crashlaw.proofs.OnLives.Begin.{law-begin, law-upgraded}
use Rattle.nofs_crashlaw.proofs.OnLives.OnlySuper.{law-only-super}
use Rattle.nofs_crashlaw.proofs.lives.law_begin.Goals as goal

pub returns : goal.returns
returns c = record { begin = law-begin; upgraded = law-upgraded; only_super = law-only-super }
