-- The lines of an index, and what it means that they are true.
use Rattle.std.specs.Prelude.{◌≡◌, ℕ, Some, nat_eq}
use Rattle.std.specs.HashMap.{get}
use Rattle.nofs_model.specs.Files.{Files}
use Rattle.nofs_shared.specs.declared.index.Index.{Index}
use Rattle.nofs_shared.specs.declared.index.line.Line.{Line}
use Rattle.nofs_shared.specs.Index.Names.{Finds}

-- by these files the name of the line leads to its file
abbrev pub IsTrueLine : Files → Line → Type 0
IsTrueLine F line = Finds F line.directory line.generation line.name line.found

-- so for each line
abbrev pub AllTrue : Files → Index → Type 0
AllTrue F index = (code : ℕ) (line : Line) → get nat_eq index.lines code ≡ Some line → IsTrueLine F line
