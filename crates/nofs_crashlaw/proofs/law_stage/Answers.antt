use Rattle.nofs_crashlaw.proofs.OnHistories.Stages.{law-lasts, law-stage, law-idle-stage, law-tracked}
use Rattle.nofs_crashlaw.proofs.law_stage.Goals as goal

pub returns : goal.returns
returns g c = record {
  lasts = λ old new. law-lasts (g.D.Disk.state old) (g.D.Disk.state new);
  stage = λ old new. law-stage (g.D.Disk.state old) (g.D.Disk.state new);
  idle = λ old new. law-idle-stage (g.D.Disk.state old) (g.D.Disk.state new);
  tracked = λ disk. law-tracked (g.D.Disk.state disk);
}
