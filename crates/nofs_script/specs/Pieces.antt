-- A text that is read piece by piece.
use Rattle.std.specs.Prelude.{◌≡◌, ◌≢◌, ◌≤◌, ℕ, List, [], ◌++◌, All, IfOk, Result, Ok, Err}
use Rattle.nofs_client.specs.declared.task.commands.Command.{Command}
use Rattle.nofs_script.specs.declared.faults.ScriptFault.{ScriptFault}
use Rattle.nofs_script.specs.declared.faults.TextFault.{TextFault}
use Rattle.nofs_script.specs.declared.pieces.LineReader.{LineReader}
use Rattle.nofs_script.specs.declared.pieces.SessionReader.{SessionReader}
use Rattle.nofs_script.specs.Grammar.{MatchesFault, MatchesReading}
use Rattle.nofs_script.specs.Session.{IsSession, empty_reading, read_from, session_of}
use Rattle.nofs_script.specs.Words.{text_lines}

-- a text was read but for what is left of it: its line that has not ended, that, and whatever follows are read on as
-- the whole text is
pub record ReadsOn (r : LineReader) (left text : List ℕ) : Type 0 where
  pub line : All (λ byte. byte ≢ 10) r.line.items
  pub on : (more : List ℕ) → read_from r.number r.reading (text_lines (r.line.items ++ (left ++ more)))
      ≡ read_from 1 empty_reading (text_lines (text ++ more))

-- it was, or it has a bad line, whatever follows
abbrev pub IsRead : Result LineReader (TextFault ScriptFault) → List ℕ → List ℕ → Type 0
IsRead (Ok r) left text = ReadsOn r left text
IsRead (Err fault) left text =
    (more : List ℕ) → MatchesFault fault (read_from 1 empty_reading (text_lines (text ++ more)))

-- the line that is read has at most this number
abbrev pub IsWithin : SessionReader → ℕ → Type 0
IsWithin r n = IfOk r.reading (λ reader. reader.number ≤ n)

-- this is what the text spells: its session, or its first bad line, unless memory ran out
pub record Spells (text : List ℕ) (read : Result (List (List Command)) (TextFault ScriptFault)) : Type 0 where
  pub exact : MatchesReading (λ session. session) read (session_of text)
  pub session : IfOk read IsSession
