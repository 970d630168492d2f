use Rattle.std.proofs.Common.{refl}
use Rattle.nofs_shared.proofs.OnPasses.Batches.{seat-looked}
use Rattle.nofs_shared.proofs.passes.steps.SharedPass.progress.Goals as goal

pub returns-clause-same : goal.returns-clause-same
returns-clause-same g c = (refl, refl, seat-looked _ _ _ c.count.ensures.look.2)
