-- The bytes that came and were not used yet, and the replies that were not given yet.
use Rattle.std.specs.Prelude.{◌≡◌, ℕ, ◌+◌, ◌^◌, ◌<◌, ◌≤◌, List, [], ◌++◌, length, take, Result, Ok, Err}
use Rattle.std.specs.declared.option.Option.{Option}
use Rattle.std.specs.Io.KnownBytes.{Appends, Consumes, IsAtEnd}

-- what contracts see: the bytes not used yet, how many came in all, and the replies not given yet
pub record BuffersState : Type 0 where
  pub window : List ℕ
  pub taken : ℕ
  pub kept : List ℕ

-- no more came of a stream than so many bytes
pub record MayTake (limit : ℕ) (buffers : BuffersState) : Type 0 where
  -- the limit is below 4 GiB, so that a count of bytes has room for it and a frame more
  pub small : limit < 2 ^ 32
  -- no more came than it may have
  pub within : buffers.taken ≤ limit
  -- those that weren't used are among those that came
  pub order : length buffers.window ≤ buffers.taken

-- bytes were taken behind those that stood before a place; none at a fault, and none without one only at the end
abbrev pub TakesInto : {E : Type 0} → Result ℕ E → ℕ → ℕ → List ℕ → List ℕ → Option (List ℕ) → Option (List ℕ) → Type 0
TakesInto (Ok count) from to old new left new_left =
    (part : List ℕ) × Consumes left new_left part × (take (from + count) new ≡ take from old ++ part)
    × (length part ≡ count) × (from + count ≤ to)
    × (count ≡ 0 → IsAtEnd new_left)
TakesInto (Err e) from to old new left new_left = Consumes left new_left [] × (take from new ≡ take from old)

-- so many bytes were taken behind the others; none only at the end
abbrev pub TakesCount : ℕ → ℕ → BuffersState → BuffersState → Option (List ℕ) → Option (List ℕ) → Type 0
TakesCount count most old new left new_left =
    (part : List ℕ) × Consumes left new_left part × (new.window ≡ old.window ++ part) × (length part ≡ count)
    × (count ≤ most)
    × (new.taken ≡ old.taken + count) × (new.kept ≡ old.kept) × (count ≡ 0 → IsAtEnd new_left)

-- the same, and none at a fault
abbrev pub TakesMore : {E : Type 0} → Result ℕ E → ℕ → BuffersState → BuffersState → Option (List ℕ)
    → Option (List ℕ) → Type 0
TakesMore (Ok count) most old new left new_left = TakesCount count most old new left new_left
TakesMore (Err e) most old new left new_left = Consumes left new_left [] × (new ≡ old)

-- replies that were kept were given from the front, and the others are left
abbrev pub Gave : BuffersState → BuffersState → Option (List ℕ) → Option (List ℕ) → Type 0
Gave old new given new_given =
    (written : List ℕ) × (left : List ℕ) × Appends given new_given written × (old.kept ≡ written ++ left)
    × (new ≡ record { window = old.window; taken = old.taken; kept = left })

-- the first bytes of the replies that were kept were given
abbrev pub GaveInPart : List ℕ → Option (List ℕ) → Option (List ℕ) → Type 0
GaveInPart kept given new_given = (count : ℕ) × (count ≤ length kept) × Appends given new_given (take count kept)

-- what giving replies comes to
abbrev pub GivesKept : {T E : Type 0} → Result T E → BuffersState → BuffersState → Option (List ℕ) → Option (List ℕ)
    → Type 0
GivesKept (Ok _) old new given new_given = Gave old new given new_given
GivesKept (Err _) old new given new_given = GaveInPart old.kept given new_given
