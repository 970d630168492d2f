-- What the words of a line mean: its command, or what is wrong in it, the first from the left.
use Rattle.std.specs.Prelude.{◌≡◌, ℕ, List, [], ◌∷◌, length, ◌==◌, ◌&&◌, if◌then◌else◌, None, Some, Result, Ok, Err}
use Rattle.std.specs.Prelude.{codes}
use Rattle.std.specs.List.{slice_split, list_all}
use Rattle.std.specs.Str.{bytes_eq}
use Rattle.std.specs.declared.option.Option.{Option}
use Rattle.hex.specs.Hex.{decode_of}
use Rattle.nofs_client.specs.Task.Commands.{has_last_name}
use Rattle.nofs_client.specs.declared.task.commands.Path.{Path}
use Rattle.nofs_client.specs.declared.task.commands.Path.TheVariants.{Label, Names}
use Rattle.nofs_client.specs.declared.task.commands.Command.{Command}
use Rattle.nofs_client.specs.declared.task.commands.Command.TheVariants as command
use Rattle.nofs_script.specs.declared.commands.Verb.{Verb}
use Rattle.nofs_script.specs.declared.commands.Verb.TheVariants as verb
use Rattle.nofs_script.specs.declared.faults.ScriptKind.{ScriptKind}
use Rattle.nofs_script.specs.declared.faults.ScriptKind.TheVariants.{WordCount, BadPath, BadNumber, BadHex}
use Rattle.nofs_script.specs.declared.faults.TextFault.{TextFault}
use Rattle.nofs_script.specs.declared.faults.TextFault.TheVariants.{Wrong, OutOfMemory}
use Rattle.nofs_script.specs.Words.{number_of, is_word}

-- the next reading, unless this one found a fault
infixl 10 ◌>>=◌
abbrev pub ◌>>=◌ : {A B E : Type 0} → Result A E → (A → Result B E) → Result B E
(Ok x) >>= f = f x
(Err e) >>= f = Err e

-- the fault of a text, or of a line of it, is the one that its reading has, unless memory ran out
abbrev pub MatchesFault : {W Y : Type 0} → TextFault W → Result Y W → Type 0
MatchesFault OutOfMemory read = Unit {0}
MatchesFault (Wrong what) read = read ≡ Err what

-- a result is what a reading has, unless memory ran out
abbrev pub MatchesReading : {W X Y : Type 0} → (X → Y) → Result X (TextFault W) → Result Y W → Type 0
MatchesReading view (Ok x) read = read ≡ Ok (view x)
MatchesReading view (Err e) read = MatchesFault e read

-- what is there, or a fault
abbrev pub or_fault : {A E : Type 0} → E → Option A → Result A E
or_fault e None = Err e
or_fault e (Some x) = Ok x

-- the path of the parts between slashes: nothing stands before the first slash, and no name is empty
abbrev pub path_of_parts : List (List ℕ) → Option Path
path_of_parts [] = None
path_of_parts (front ∷ names) = if length front == 0 && list_all is_word names then Some (Names names) else None

-- a path is `@`, `/`, or names with a slash before each
unfoldable pub spelled_path : List ℕ → Option Path
spelled_path word =
    if bytes_eq word (codes "@") then Some Label
    else if bytes_eq word (codes "/") then Some (Names [])
    else path_of_parts (slice_split (λ byte. byte == 47) word)

unfoldable pub path_word : List ℕ → Result Path ScriptKind
path_word word = or_fault BadPath (spelled_path word)

-- a path with at least one name
unfoldable pub new_path_word : List ℕ → Result Path ScriptKind
new_path_word word = do
  path ← path_word word
  if has_last_name path then Ok path else Err BadPath

unfoldable pub number_word : List ℕ → Result ℕ ScriptKind
number_word word = or_fault BadNumber (number_of word)

abbrev pub hex_digits : {E : Type 0} → Result (List ℕ) E → Result (List ℕ) ScriptKind
hex_digits (Ok bytes) = Ok bytes
hex_digits (Err e) = Err BadHex

-- an even number of at least two hexadecimal digits
unfoldable pub hex_word : List ℕ → Result (List ℕ) ScriptKind
hex_word word = if length word == 0 then Err BadHex else hex_digits (decode_of word)

-- the verb of the first of these words that a word equals
abbrev pub verb_among : List ℕ → List (List ℕ × Verb) → Option Verb
verb_among word [] = None
verb_among word ((spelled, v) ∷ rest) = if bytes_eq word spelled then Some v else verb_among word rest

-- the verb that a word names
unfoldable pub verb_in : List ℕ → Option Verb
verb_in word = verb_among word (
    (codes "make", verb.Make) ∷ (codes "mkdir", verb.MakeDirectory) ∷ (codes "put", verb.Put) ∷ (codes "get", verb.Get)
    ∷ (codes "size", verb.Size)
    ∷ (codes "stat", verb.Stat) ∷ (codes "list", verb.List) ∷ (codes "link", verb.Link) ∷ (codes "drop", verb.Drop)
    ∷ (codes "rename", verb.Rename)
    ∷ (codes "fsync", verb.Fsync) ∷ (codes "move", verb.Move) ∷ [])

-- PATH, or NEWPATH where a name is made or dropped
abbrev pub one_path : Verb → List ℕ → Result Path ScriptKind
one_path verb.Make a = new_path_word a
one_path verb.MakeDirectory a = new_path_word a
one_path verb.Drop a = new_path_word a
one_path verb.Stat a = path_word a
one_path verb.List a = path_word a
one_path verb.Fsync a = path_word a
one_path verb.Put a = Err WordCount
one_path verb.Get a = Err WordCount
one_path verb.Size a = Err WordCount
one_path verb.Link a = Err WordCount
one_path verb.Rename a = Err WordCount
one_path verb.Move a = Err WordCount

-- the command of a verb that takes just a path
abbrev pub on_path : Verb → Path → Result Command ScriptKind
on_path verb.Make path = Ok (command.Make path)
on_path verb.MakeDirectory path = Ok (command.MakeDirectory path)
on_path verb.Drop path = Ok (command.Drop path)
on_path verb.Stat path = Ok (command.Stat path)
on_path verb.List path = Ok (command.List path)
on_path verb.Fsync path = Ok (command.Fsync path)
on_path verb.Put path = Err WordCount
on_path verb.Get path = Err WordCount
on_path verb.Size path = Err WordCount
on_path verb.Link path = Err WordCount
on_path verb.Rename path = Err WordCount
on_path verb.Move path = Err WordCount

unfoldable pub one_word : Verb → List ℕ → Result Command ScriptKind
one_word v a = one_path v a >>= on_path v

-- PATH SIZE, PATH NEWPATH, NEWPATH NAME, and NEWPATH NEWPATH
unfoldable pub two_words : Verb → List ℕ → List ℕ → Result Command ScriptKind
two_words verb.Size a b = path_word a >>= λ path. number_word b >>= λ size. Ok (command.Size path size)
two_words verb.Link a b = path_word a >>= λ path. new_path_word b >>= λ to. Ok (command.Link path to)
two_words verb.Rename a b = new_path_word a >>= λ path. Ok (command.Rename path b)
two_words verb.Move a b = new_path_word a >>= λ from. new_path_word b >>= λ to. Ok (command.Move from to)
two_words verb.Make a b = Err WordCount
two_words verb.MakeDirectory a b = Err WordCount
two_words verb.Put a b = Err WordCount
two_words verb.Get a b = Err WordCount
two_words verb.Stat a b = Err WordCount
two_words verb.List a b = Err WordCount
two_words verb.Drop a b = Err WordCount
two_words verb.Fsync a b = Err WordCount

-- PATH OFFSET HEX, and PATH OFFSET LENGTH
unfoldable pub three_words : Verb → List ℕ → List ℕ → List ℕ → Result Command ScriptKind
three_words verb.Put a b c =
    path_word a >>= λ path. number_word b >>= λ offset. hex_word c >>= λ bytes. Ok (command.Put path offset bytes)
three_words verb.Get a b c =
    path_word a >>= λ path. number_word b >>= λ offset. number_word c >>= λ len. Ok (command.Get path offset len)
three_words verb.Make a b c = Err WordCount
three_words verb.MakeDirectory a b c = Err WordCount
three_words verb.Size a b c = Err WordCount
three_words verb.Stat a b c = Err WordCount
three_words verb.List a b c = Err WordCount
three_words verb.Link a b c = Err WordCount
three_words verb.Drop a b c = Err WordCount
three_words verb.Rename a b c = Err WordCount
three_words verb.Fsync a b c = Err WordCount
three_words verb.Move a b c = Err WordCount

-- the command of a verb with the words after it
abbrev pub command_of : Verb → List (List ℕ) → Result Command ScriptKind
command_of v (a ∷ []) = one_word v a
command_of v (a ∷ b ∷ []) = two_words v a b
command_of v (a ∷ b ∷ c ∷ []) = three_words v a b c
command_of v _ = Err WordCount
