-- What is known of inodes.
use Rattle.std.specs.Prelude.{Bool, List, [], Option, Some, None}

-- the places, where there are some
abbrev pub places : {V : Type 0} → (V → List (Option Bool)) → Option V → List (Option Bool)
places items None = []
places items (Some inodes) = items inodes
