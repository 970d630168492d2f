-- What is taken and given by many calls.
use Rattle.std.specs.Prelude.{◌≡◌, ℕ, ◌<◌, ◌≤◌, List, ◌++◌, length, take}
use Rattle.std.specs.Io.KnownBytes.{Consumes, Appends, IsAtEnd}
use Rattle.nofs_io.specs.Calls.{SourceState, SinkState}

-- these bytes are all that was left, at most so many
pub record IsWhole (old new : SourceState) (bytes : List ℕ) (limit : ℕ) : Type 0 where
  pub taken : Consumes old.left new.left bytes
  pub ended : IsAtEnd new.left
  pub short : length bytes ≤ limit

-- at most so many bytes left the front
abbrev pub TakesAtMost : SourceState → SourceState → ℕ → Type 0
TakesAtMost old new most = (bytes : List ℕ) × Consumes old.left new.left bytes × (length bytes ≤ most)

-- just so many bytes left the front
abbrev pub TakesJust : SourceState → SourceState → ℕ → Type 0
TakesJust old new count = (bytes : List ℕ) × Consumes old.left new.left bytes × (length bytes ≡ count)

-- bytes left the front, and stand behind those that were read before
abbrev pub MovesBehind : SourceState → SourceState → List ℕ → List ℕ → Type 0
MovesBehind old new before now = (bytes : List ℕ) × Consumes old.left new.left bytes × (now ≡ before ++ bytes)

-- a text was appended whole
abbrev pub AppendsAll : SinkState → SinkState → List ℕ → Type 0
AppendsAll old new text = Appends old.given new.given text

-- a text was appended in part: a prefix of it that is shorter
abbrev pub AppendsPart : SinkState → SinkState → List ℕ → Type 0
AppendsPart old new text = (count : ℕ) × (count < length text) × Appends old.given new.given (take count text)
