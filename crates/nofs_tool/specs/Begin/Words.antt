-- Which words are a command of the program.
use Rattle.std.specs.Prelude.{ℕ, ◌==◌, Bool, true, false, not, ◌&&◌, List, [], ◌∷◌, length, codes, nat_le}
use Rattle.std.specs.Prelude.{if◌then◌else◌, Some, None}
use Rattle.std.specs.Str.{bytes_eq}
use Rattle.std.specs.declared.option.Option.{Option}
use Rattle.nofs_script.specs.Words.{number_of}
use Rattle.nofs_salvage.specs.Report.Filter.{begins_with}
use Rattle.nofs_tool.specs.declared.begin.words.Request.{Request}
use Rattle.nofs_tool.specs.declared.begin.words.Request.TheVariants.{New, Run, Scan, Drill, Upgrade, Salvage, Wire}

abbrev pub both : Option ℕ → Option ℕ → Option Request
both (Some blocks) (Some inodes) = Some (New blocks inodes)
both _ _ = None

-- BLOCKS INODES
abbrev pub new_in : List ℕ → List ℕ → Option Request
new_in blocks inodes = both (number_of blocks) (number_of inodes)

abbrev pub drawn_in : Option ℕ → Option ℕ → Option Request
drawn_in (Some start) (Some steps) = if nat_le steps 4000 then Some (Drill start steps) else None
drawn_in _ _ = None

-- START STEPS, of at most 4,000 steps
abbrev pub drill_in : List ℕ → List ℕ → Option Request
drill_in start steps = drawn_in (number_of start) (number_of steps)

-- a command of one word
abbrev pub plain_in : List ℕ → Option Request
plain_in word = if bytes_eq word (codes "run") then Some Run else (if bytes_eq word (codes "scan") then Some Scan else
    (if bytes_eq word (codes "upgrade") then Some Upgrade
    else (if bytes_eq word (codes "salvage") then Some Salvage else
    (if bytes_eq word (codes "wire") then Some Wire else None))))

-- a word that begins with a dash, as an option of other programs does
abbrev pub is_dashed : List ℕ → Bool
is_dashed [] = false
is_dashed (byte ∷ rest) = byte == 45

-- salvage PREFIX, of 1 to 48 bytes, of which the first is no dash
abbrev pub prefixed_in : List ℕ → List ℕ → Option Request
prefixed_in word prefix =
    if bytes_eq word (codes "salvage")
    && (nat_le 1 (length prefix) && (nat_le (length prefix) 48 && not (is_dashed prefix)))
    then Some Salvage else None

-- the task that words ask for
abbrev pub task_in : List (List ℕ) → Option Request
task_in (word ∷ []) = plain_in word
task_in (word ∷ prefix ∷ []) = prefixed_in word prefix
task_in (word ∷ one ∷ two ∷ []) = if bytes_eq word (codes "new") then new_in one two
    else (if bytes_eq word (codes "drill") then drill_in one two else None)
task_in _ = None

-- the names that a salvage is about
abbrev pub picks_in : List (List ℕ) → List ℕ → Bool
picks_in (word ∷ prefix ∷ []) = begins_with prefix
picks_in _ = λ name. true
