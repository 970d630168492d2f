use Rattle.std.proofs.Common.{◌≡◌, ◌++◌, List, map}
use Rattle.nofs_history.specs.Steps.{Made}
use Rattle.nofs_client.specs.Task.State.{TaskStands}
use Rattle.nofs_client.specs.Progress.{progress, start_of}
use Rattle.nofs_client.specs.Driver.{Asked, made_reply}
use Rattle.nofs_client.proofs.OnProgress.{rank}
use Rattle.nofs_client.proofs.client.Client.run.Given as goal

abbrev pub invariant-loop-progress : goal.invariant-loop-progress
invariant-loop-progress g l =
    (made : List Made) × (g.S.Steps.made l.self.steps ≡ g.S.Steps.made l.initial.self.steps ++ made)
    × Asked l.command (start_of l.command) made
    × (l.progress ≡ progress l.command (map made_reply made))
    × TaskStands l.command l.progress.task
    × g.S.Steps.goes l.initial.self.steps l.self.steps

abbrev pub decreases-loop-progress : goal.decreases-loop-progress
decreases-loop-progress g l = rank l.command l.progress
