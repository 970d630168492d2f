use Rattle.nofs_crashlaw.proofs.OnHistories.FlushStage.{law-flush-stage}
use Rattle.nofs_crashlaw.proofs.law_flush_stage.Goals as goal

pub returns : goal.returns
returns g c = λ old new. law-flush-stage (g.D.Disk.state old) (g.D.Disk.state new)
