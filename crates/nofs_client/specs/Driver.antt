-- Which steps a command makes, and which a list of commands.
use Rattle.std.specs.Prelude.{◌≡◌, ◌++◌, List, [], ◌∷◌, map, Some, None}
use Rattle.std.specs.declared.option.Option.{Option}
use Rattle.std.specs.Option.{option_map_or}
use Rattle.nofs_history.specs.Steps.{Made}
use Rattle.nofs_history.specs.declared.machine.replies.Reply.{Reply}
use Rattle.nofs_client.specs.declared.task.commands.Command.{Command}
use Rattle.nofs_client.specs.declared.task.next.Next.{Next}
use Rattle.nofs_client.specs.declared.task.next.Next.TheVariants.{Do, Say}
use Rattle.nofs_client.specs.declared.task.lines.Line.{Line}
use Rattle.nofs_client.specs.declared.progress.Progress.{Progress}
use Rattle.nofs_client.specs.Progress.{start_of, asks, progress_after, drive_of}

-- the reply to a step that was made
abbrev pub made_reply : Made → Reply
made_reply m = m.1

-- each step is the one that is asked for after the replies before it
abbrev pub Asked : Command → Progress → List Made → Type 0
Asked c p [] = Unit {0}
Asked c p (m ∷ ms) = (asks c p ≡ Do m.0) × Asked c (progress_after c p m.1) ms

-- the command was run to its line by these steps
pub record IsCommandRun (c : Command) (made : List Made) (line : Line) : Type 0 where
  pub asked : Asked c (start_of c) made
  pub says : drive_of c (map made_reply made) ≡ Say line

-- the commands were run one after the other by these steps, each to its line
abbrev pub IsDriven : List Command → List Made → List Line → Type 0
IsDriven [] made lines = (made ≡ []) × (lines ≡ [])
IsDriven (c ∷ cs) made lines = (front : List Made) × (back : List Made) × (line : Line) × (others : List Line)
    × (made ≡ front ++ back) × (lines ≡ line ∷ others) × IsCommandRun c front line × IsDriven cs back others

-- the first of the commands was begun by these steps
abbrev pub IsBegun : List Command → List Made → Type 0
IsBegun [] made = made ≡ []
IsBegun (c ∷ cs) made = Asked c (start_of c) made

-- some of the commands were run, and the next one begun
pub record IsPartlyDriven (commands : List Command) (made : List Made) (lines : List Line) : Type 0 where
  pub run : List Command
  pub left : List Command
  pub front : List Made
  pub back : List Made
  pub commands_are : commands ≡ run ++ left
  pub made_are : made ≡ front ++ back
  pub driven : IsDriven run front lines
  pub begun : IsBegun left back

-- from old to new just the steps of the command were made, and it came to its line
abbrev pub RunsTo : Command → List Made → List Made → Line → Type 0
RunsTo c old new line = (made : List Made) × (new ≡ old ++ made) × IsCommandRun c made line

-- from old to new just steps of the command were made, so far as it came
abbrev pub RunsPartly : Command → List Made → List Made → Type 0
RunsPartly c old new = (made : List Made) × (new ≡ old ++ made) × Asked c (start_of c) made

-- just steps that these commands may make were made, and their lines were added
pub record RunsBy (is_driven : List Command → List Made → List Line → Type 0) (commands : List Command)
    (old new : List Made)
    (old_lines new_lines : List Line) : Type 0 where
  pub made : List Made
  pub said : List Line
  pub more : new ≡ old ++ made
  pub more_lines : new_lines ≡ old_lines ++ said
  pub driven : is_driven commands made said

-- just the steps of the commands were made, and the line of each was added
abbrev pub RunsAll : List Command → List Made → List Made → List Line → List Line → Type 0
RunsAll = RunsBy IsDriven

-- just steps of the commands were made, so far as they came, and the line was added of each that was run
abbrev pub RunsSome : List Command → List Made → List Made → List Line → List Line → Type 0
RunsSome = RunsBy IsPartlyDriven

-- the line where one is said here, and else what is said later
abbrev pub chosen : Next → List Reply → Option (Line × List Reply) → Option (Line × List Reply)
chosen (Say line) rest more = Some (line, rest)
chosen (Do s) rest more = more

-- what is said first from here on, and the replies that are left then
abbrev pub said_of : Command → Progress → List Reply → Option (Line × List Reply)
said_of c p [] = chosen (asks c p) [] None
said_of c p (r ∷ rs) = chosen (asks c p) (r ∷ rs) (said_of c (progress_after c p r) rs)

-- the lines of the commands, by the replies to their steps
unfoldable pub lines_of : List Command → List Reply → List Line
lines_of [] rs = []
lines_of (c ∷ cs) rs = option_map_or (λ p. p.0 ∷ lines_of cs p.1) (said_of c (start_of c) rs) []

-- the lines of commands that were run are those that the replies give
abbrev pub LinesFollow : Type 0
LinesFollow = (cs : List Command) (made : List Made) (lines : List Line) → IsDriven cs made lines
    → lines_of cs (map made_reply made) ≡ lines
