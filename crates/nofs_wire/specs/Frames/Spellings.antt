-- The one body that spells a step (docs/FORMAT.md, "Frames").
use Rattle.std.specs.Prelude.{ℕ, ◌^◌, ◌<◌, List, [], ◌∷◌, ◌++◌}
use Rattle.nofs_history.specs.declared.machine.steps.Step.{Step}
use Rattle.nofs_history.specs.declared.machine.steps.Step.TheVariants as step
use Rattle.nofs_wire.specs.Frames.Fields.{number_bytes, kind_byte, name_bytes}

-- the first byte, an inode number and its generation, and the rest
abbrev pub head_bytes : ℕ → ℕ → ℕ → List ℕ → List ℕ
head_bytes first inode generation rest = first ∷ (number_bytes 4 inode ++ (number_bytes 8 generation ++ rest))

-- the body that asks for a step
unfoldable pub request_bytes : Step → List ℕ
request_bytes (step.Look d g name) = head_bytes 1 d g (name_bytes name)
request_bytes (step.Make d g name kind) = head_bytes 2 d g (name_bytes name ++ kind_byte kind ∷ [])
request_bytes (step.Link d g name i of) = head_bytes 3 d g (name_bytes name ++ (number_bytes 4 i ++ number_bytes 8 of))
request_bytes (step.Drop d g name) = head_bytes 4 d g (name_bytes name)
request_bytes (step.Rename d g old new) = head_bytes 5 d g (name_bytes old ++ name_bytes new)
request_bytes (step.List d g slot) = head_bytes 6 d g (number_bytes 8 slot)
request_bytes (step.Get i g slot) = head_bytes 7 i g (number_bytes 8 slot)
request_bytes (step.Put i g slot at bytes) = head_bytes 8 i g (number_bytes 8 slot ++ (number_bytes 4 at ++ bytes))
request_bytes (step.Resize i g size) = head_bytes 9 i g (number_bytes 8 size)
request_bytes (step.Stat i g) = head_bytes 10 i g []
request_bytes (step.Flush i g) = head_bytes 11 i g []
request_bytes (step.SeeInode i) = 12 ∷ number_bytes 4 i
request_bytes (step.SeeBlock p) = 13 ∷ number_bytes 8 p

-- an inode number and its generation fit their places
abbrev pub IsHandle : ℕ → ℕ → Type 0
IsHandle inode generation = (inode < 2 ^ 32) × (generation < 2 ^ 64)

-- the numbers of a step fit their places in a body
abbrev pub FitsBody : Step → Type 0
FitsBody (step.Look d g name) = IsHandle d g
FitsBody (step.Make d g name kind) = IsHandle d g
FitsBody (step.Link d g name i of) = IsHandle d g × IsHandle i of
FitsBody (step.Drop d g name) = IsHandle d g
FitsBody (step.Rename d g old new) = IsHandle d g
FitsBody (step.List d g slot) = IsHandle d g × (slot < 2 ^ 64)
FitsBody (step.Get i g slot) = IsHandle i g × (slot < 2 ^ 64)
FitsBody (step.Put i g slot at bytes) = IsHandle i g × (slot < 2 ^ 64) × (at < 2 ^ 32)
FitsBody (step.Resize i g size) = IsHandle i g × (size < 2 ^ 64)
FitsBody (step.Stat i g) = IsHandle i g
FitsBody (step.Flush i g) = IsHandle i g
FitsBody (step.SeeInode i) = i < 2 ^ 32
FitsBody (step.SeeBlock p) = p < 2 ^ 64
