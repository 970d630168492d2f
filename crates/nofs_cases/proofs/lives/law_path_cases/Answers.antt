use Rattle.nofs_cases.proofs.OnLives.Paths.{root-case, name-path-case}
use Rattle.nofs_cases.proofs.lives.law_path_cases.Goals as goal

pub returns : goal.returns
returns c = record { root = root-case; name = name-path-case }
