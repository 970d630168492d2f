-- The steps of one run of the command, by their replies.
use Rattle.std.specs.Prelude.{◌≡◌, ℕ, List, length, map, Some, slice_get}
use Rattle.nofs_model.specs.Geometry.{Image}
use Rattle.nofs_history.specs.HistoryState.{HistoryState}
use Rattle.nofs_history.specs.Steps.{Made}
use Rattle.nofs_history.specs.declared.machine.history.Entry1.{Entry1}
use Rattle.nofs_history.specs.declared.machine.steps.Step.{Step}
use Rattle.nofs_history.specs.declared.machine.replies.Reply.TheVariants as reply
use Rattle.nofs_history.specs.Callers.{steps_by}
use Rattle.nofs_client.specs.declared.task.commands.Command.{Command}
use Rattle.nofs_client.specs.declared.task.commands.Command.TheVariants as command
use Rattle.nofs_client.specs.declared.task.commands.Path.{Path}
use Rattle.nofs_client.specs.declared.task.next.Next.TheVariants.{Say}
use Rattle.nofs_client.specs.declared.task.lines.Line.{Line}
use Rattle.nofs_client.specs.declared.task.lines.Line.TheVariants as line
use Rattle.nofs_client.specs.Task.Commands.{HasName}
use Rattle.nofs_client.specs.Task.Places.{last_name}
use Rattle.nofs_client.specs.Progress.{drive_of}
use Rattle.nofs_client.specs.Driver.{made_reply, IsCommandRun, IsPartlyDriven}
use Rattle.nofs_crashlaw.specs.Runs.Bases.{IsHistory}
use Rattle.nofs_move.specs.Own.{RunBy}
use Rattle.nofs_move.specs.Linked.{DropMade, LinkedSteps}

-- The steps of a run of the command in which one was answered Linked are those of a move: which is which is settled.
abbrev pub LawSteps : Type 0
LawSteps = (B : Image) (H : HistoryState) (c : ℕ) (from to : Path) (made : List Made) → IsHistory B H → HasName from
    → RunBy c (command.Move from to) made H.entries
    → (k : ℕ) (asked : Step) → slice_get made k ≡ Some (asked, reply.Linked) → LinkedSteps from to made

-- And of one that ended with the line `moved` all are: Link was accepted, the second flush succeeded, and Drop came.
abbrev pub LawMovedSteps : Type 0
LawMovedSteps =
    (B : Image) (H : HistoryState) (c : ℕ) (from to : Path) (made : List Made) → IsHistory B H → HasName from
    → RunBy c (command.Move from to) made H.entries
    → drive_of (command.Move from to) (map made_reply made) ≡ Say line.Moved
    → (s : LinkedSteps from to made) × DropMade made s.link s.second s.drop s.d s.dg (last_name from) s.i s.g

-- Each command of a user's script that was run to its line has its run among the steps that the user made.
abbrev pub LawCommandRun : Type 0
LawCommandRun =
    (c : ℕ) (script : List Command) (H : List Entry1) (lines : List Line) → IsPartlyDriven script (steps_by c H) lines
    → (k : ℕ) (asked : Command) (said : Line) → slice_get script k ≡ Some asked → slice_get lines k ≡ Some said
    → (made : List Made) × RunBy c asked made H × IsCommandRun asked made said

-- So has the command at which the user ended early, where memory was wanting, as far as it came.
abbrev pub LawCommandBegun : Type 0
LawCommandBegun =
    (c : ℕ) (script : List Command) (H : List Entry1) (lines : List Line) → IsPartlyDriven script (steps_by c H) lines
    → (asked : Command) → slice_get script (length lines) ≡ Some asked → (made : List Made) × RunBy c asked made H
