use Rattle.nofs_shared.proofs.OnPasses.Entries.{adds-prefix}
use Rattle.nofs_shared.proofs.passes.steps.MoveSection.run.Goals as goal

pub returns-clause-keeps : goal.returns-clause-keeps
returns-clause-keeps g c = adds-prefix _ _ _ _ _ c.serve.ensures.tells.adds
