-- What a text means: its scripts, or the first bad line.
use Rattle.std.specs.Prelude.{ℕ, ◌+◌, ◌≤◌, ◌++◌, List, [], ◌∷◌, length}
use Rattle.std.specs.Prelude.{nat_lt, ◌==◌, Bool, if◌then◌else◌, None, Some, Result, Ok, Err, slice_index, codes}
use Rattle.std.specs.List.{AllByRecursion}
use Rattle.std.specs.Str.{bytes_eq}
use Rattle.std.specs.Str.Lines.{strip_carriage_return}
use Rattle.std.specs.declared.option.Option.{Option}
use Rattle.nofs_history.specs.declared.machine.callers.TheConstants.{MOST_USERS}
use Rattle.nofs_client.specs.declared.task.commands.Command.{Command}
use Rattle.nofs_client.specs.declared.task.commands.Command.TheVariants as command
use Rattle.nofs_client.specs.Task.Commands.{IsWellFormed}
use Rattle.nofs_script.specs.declared.commands.Verb.{Verb}
use Rattle.nofs_script.specs.declared.faults.ScriptKind.{ScriptKind}
use Rattle.nofs_script.specs.declared.faults.ScriptKind.TheVariants.{UnknownCommand, WordCount, TooManyUsers}
use Rattle.nofs_script.specs.declared.faults.ScriptKind.TheVariants.{TooMuchAsked, TooManyCommands}
use Rattle.nofs_script.specs.declared.faults.ScriptFault.{ScriptFault}
use Rattle.nofs_script.specs.declared.session.Reading.{Reading}
use Rattle.nofs_script.specs.Words.{words_of, text_lines}
use Rattle.nofs_script.specs.Grammar.{◌>>=◌, command_of, verb_in}

-- a line whose first byte is the number sign
abbrev pub is_skipped : List ℕ → Bool
is_skipped line = slice_index line 0 == 35

-- how many bytes a command asks for
abbrev pub asked_by : Command → ℕ
asked_by (command.Get path offset len) = len
asked_by (command.Make _) = 0
asked_by (command.MakeDirectory _) = 0
asked_by (command.Put _ _ _) = 0
asked_by (command.Size _ _) = 0
asked_by (command.Stat _) = 0
asked_by (command.List _) = 0
asked_by (command.Link _ _) = 0
asked_by (command.Drop _) = 0
asked_by (command.Rename _ _) = 0
asked_by (command.Fsync _) = 0
asked_by (command.Move _ _) = 0

-- a command is added, within the limits of a session
abbrev pub with_command : Reading → Command → Result Reading ScriptKind
with_command r c =
    if nat_lt 67108864 (r.asked + asked_by c) then Err TooMuchAsked
    else if nat_lt r.count 65536
    then Ok (record { done = r.done; current = r.current ++ c ∷ []; count = r.count + 1; asked = r.asked + asked_by c })
    else Err TooManyCommands

-- the line that begins the next script
abbrev pub user_of : Reading → List (List ℕ) → Result Reading ScriptKind
user_of r [] =
    if nat_lt (length r.done + 1) MOST_USERS
    then Ok (record { done = r.done ++ r.current ∷ []; current = []; count = r.count; asked = r.asked })
    else Err TooManyUsers
user_of r (_ ∷ _) = Err WordCount

-- a line with a command, by its verb and the words after it
abbrev pub read_verb : Reading → Option Verb → List (List ℕ) → Result Reading ScriptKind
read_verb r None args = Err UnknownCommand
read_verb r (Some v) args = command_of v args >>= with_command r

-- a line by its words
abbrev pub read_words : Reading → List (List ℕ) → Result Reading ScriptKind
read_words r [] = Ok r
read_words r (word ∷ args) = if bytes_eq word (codes "user") then user_of r args else read_verb r (verb_in word) args

unfoldable pub read_line : Reading → List ℕ → Result Reading ScriptKind
read_line r line = if is_skipped line then Ok r else read_words r (words_of line)

-- a line, with the lines after it: only before a line feed it loses a carriage return
abbrev pub line_to_break : List ℕ → List (List ℕ) → List ℕ
line_to_break line [] = line
line_to_break line (_ ∷ _) = strip_carriage_return line

-- a fault of a line is named with its number
abbrev pub at_line : ℕ → Result Reading ScriptKind → Result Reading ScriptFault
at_line n (Ok r) = Ok r
at_line n (Err kind) = Err (record { line = n; kind = kind })

-- the lines from line n on
unfoldable pub read_from : ℕ → Reading → List (List ℕ) → Result Reading ScriptFault
read_from n r [] = Ok r
read_from n r (line ∷ rest) = at_line n (read_line r (line_to_break line rest)) >>= λ next. read_from (n + 1) next rest

abbrev pub empty_reading : Reading
empty_reading = record { done = []; current = []; count = 0; asked = 0 }

-- the scripts of a text, or the first bad line
unfoldable pub session_of : List ℕ → Result (List (List Command)) ScriptFault
session_of text = read_from 1 empty_reading (text_lines text) >>= λ r. Ok (r.done ++ r.current ∷ [])

-- a session has 1 to 8 scripts of well-formed commands
pub record IsSession (scripts : List (List Command)) : Type 0 where
  pub some : 1 ≤ length scripts
  pub few : length scripts ≤ MOST_USERS
  pub formed : AllByRecursion (AllByRecursion IsWellFormed) scripts
