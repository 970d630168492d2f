-- A session that is read as its source gives it.
use Rattle.std.specs.Prelude.{◌≡◌, ℕ, List, [], ◌++◌, length}
use Rattle.std.specs.Io.KnownBytes.{Consumes}
use Rattle.nofs_io.specs.Calls.{SourceState}
use Rattle.nofs_script.specs.Pieces.{IsRead}
use Rattle.nofs_script.specs.declared.pieces.SessionReader.{SessionReader}

-- so many bytes left the front, and were read
abbrev pub HasReadOn : SourceState → SourceState → SessionReader → SessionReader → ℕ → Type 0
HasReadOn old new before now count =
    (bytes : List ℕ) × Consumes old.left new.left bytes × (length bytes ≡ count)
    × ((text : List ℕ) → IsRead before.reading [] text → IsRead now.reading [] (text ++ bytes))
