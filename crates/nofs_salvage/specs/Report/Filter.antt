-- Which names a prefix picks.
use Rattle.std.specs.Prelude.{ℕ, Bool, List, length, take, bytes_eq}

-- the name begins with these bytes
abbrev pub begins_with : List ℕ → List ℕ → Bool
begins_with bytes name = bytes_eq (take (length bytes) name) bytes
