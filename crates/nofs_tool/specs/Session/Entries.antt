-- What the entries of a history say, and the text of a session by them.
use Rattle.std.specs.Prelude.{ℕ, ◌+◌, List, [], ◌∷◌, map, ◌++◌, flat_map}
use Rattle.nofs_history.specs.declared.machine.history.Entry1.{Entry1}
use Rattle.nofs_history.specs.Callers.{steps_by}
use Rattle.nofs_client.specs.declared.task.commands.Command.{Command}
use Rattle.nofs_client.specs.declared.task.lines.Line.{Line}
use Rattle.nofs_client.specs.Driver.{lines_of, made_reply}
use Rattle.nofs_script.specs.Text.{text_of}

-- the lines of the users from a number on, by the replies in the history
abbrev pub session_lines : ℕ → List (List Command) → List Entry1 → List Line
session_lines user [] entries = []
session_lines user (script ∷ scripts) entries =
    lines_of script (map made_reply (steps_by user entries)) ++ session_lines (user + 1) scripts entries

-- the text that a session has by a history: the lines of its users, in order
unfoldable pub session_text : List (List Command) → List Entry1 → List ℕ
session_text scripts entries = flat_map text_of (session_lines 1 scripts entries)
