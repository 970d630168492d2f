use Rattle.std.proofs.Common.{take, drop}
use Rattle.nofs_client.specs.Task.Commands.{AreWellFormed}
use Rattle.nofs_client.specs.Driver.{RunsAll}
use Rattle.nofs_client.proofs.client.Client.run_all.Given as goal

abbrev pub invariant-loop-command : goal.invariant-loop-command
invariant-loop-command g l =
    RunsAll (take l.command-index l.commands) (g.S.Steps.made l.initial.self.steps)
    (g.S.Steps.made l.self.steps) l.initial.lines l.lines
    × g.S.Steps.goes l.initial.self.steps l.self.steps
    × AreWellFormed (drop l.command-index l.commands)
