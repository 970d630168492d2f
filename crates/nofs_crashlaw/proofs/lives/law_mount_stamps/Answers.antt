use Rattle.nofs_crashlaw.proofs.OnLives.Within.{law-mount-stamps}
use Rattle.nofs_crashlaw.proofs.lives.law_mount_stamps.Goals as goal

pub returns : goal.returns
returns c = law-mount-stamps
