use Rattle.nofs_crashlaw.proofs.OnHistories.FirstStage.{law-first-stage}
use Rattle.nofs_crashlaw.proofs.law_first_stage.Goals as goal

pub returns : goal.returns
returns g c = λ disk. law-first-stage (g.D.Disk.state disk)
