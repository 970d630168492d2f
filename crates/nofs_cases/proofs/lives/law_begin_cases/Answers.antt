use Rattle.nofs_cases.proofs.OnLives.Begin.{begin-case, upgrade-case}
use Rattle.nofs_cases.proofs.OnLives.Contents.{bytes-case}
use Rattle.nofs_cases.proofs.lives.law_begin_cases.Goals as goal

pub returns : goal.returns
returns c = record { begin = begin-case; upgrade = upgrade-case; bytes = bytes-case }
