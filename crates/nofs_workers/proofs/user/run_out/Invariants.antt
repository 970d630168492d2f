use Rattle.std.proofs.Common.{◌≡◌, ℕ, ◌≤◌, length, take, drop, get_or}
use Rattle.nofs_client.specs.declared.task.commands.Command.{Command}
use Rattle.nofs_client.specs.Task.Commands.{AreWellFormed}
use Rattle.nofs_client.specs.Driver.{RunsAll}
use Rattle.nofs_workers.proofs.user.run_out.Given as goal

abbrev pub invariant-loop-at : goal.invariant-loop-at
invariant-loop-at g l =
    RunsAll (take l.at l.fn.commands) (g.S.Steps.made l.initial.client.steps) (g.S.Steps.made l.client.steps)
    l.initial.lines l.lines
    × g.S.Steps.goes l.initial.client.steps l.client.steps
    × AreWellFormed (drop l.at l.fn.commands)
    × (length l.left.items ≡ length l.fn.commands)
    × ((k : ℕ) (d : Command) → l.at ≤ k → get_or l.left.items k d ≡ get_or l.fn.commands k d)
