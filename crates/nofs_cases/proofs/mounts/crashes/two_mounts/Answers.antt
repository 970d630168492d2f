use Rattle.nofs_cases.proofs.OnMounts.Crashes.{both-mounts}
use Rattle.nofs_cases.proofs.mounts.crashes.two_mounts.Goals as goal

pub returns-in-Ok : goal.returns-in-Ok
returns-in-Ok c = both-mounts c.law_mount_life.ensures.sound c.in-Ok.mount.found.value c.end.result.0 c.end.result.1
    c.in-Ok.mount.first c.in-Ok.ensures
    c.end.ensures.ends
