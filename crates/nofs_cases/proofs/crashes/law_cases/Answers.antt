use Rattle.nofs_cases.proofs.OnLives.Runs.{new-disk, two-lives, early-life}
use Rattle.nofs_cases.proofs.crashes.law_cases.Goals as goal

pub returns : goal.returns
returns c = record { new_disk = new-disk; two_lives = two-lives c.law_next.ensures.total; early_life = early-life }
