-- What a call of a source and a call of a sink does.
use Rattle.std.specs.Prelude.{ℕ, ◌+◌, ◌-◌, ◌^◌, ◌<◌, ◌≤◌, min, List, length, OnErr, IfOk}
use Rattle.std.specs.Io.{ReadsAtMost}
use Rattle.std.specs.Io.KnownBytes.{ReadConsumes, WriteAppends}
use Rattle.std.specs.declared.result.Result.{Result}
use Rattle.std.specs.declared.option.Option.{Option}

-- what contracts see of a source
pub record SourceState : Type 0 where
  -- the bytes that are left, where the source tells
  pub left : Option (List ℕ)
  -- how often a call has failed
  pub faults : ℕ

-- what contracts see of a sink
pub record SinkState : Type 0 where
  -- the bytes that it took, where the sink tells
  pub given : Option (List ℕ)
  -- how often a call has failed
  pub faults : ℕ

-- a count that is kept in 64 bits one higher; at its last value it stays
abbrev pub raised_count : ℕ → ℕ
raised_count count = min (count + 1) (2 ^ 64 - 1)

-- a count that is kept in 64 bits has risen, or stands at its last value
abbrev pub CountRose : ℕ → ℕ → Type 0
CountRose before now = raised_count before ≤ now

-- the count of faults never falls, and a call fails only where it rose
pub record HasCause {T E : Type 0} (before now : ℕ) (result : Result T E) : Type 0 where
  pub later : before ≤ now
  pub failed : OnErr result (CountRose before now)

-- what `take` does: the bytes that it gives leave the front, none for a piece that is not empty
-- only at the end, and a call that fails takes nothing away
pub record Takes {E : Type 0} (old new : SourceState) (result : Result ℕ E) (into : List ℕ) : Type 0 where
  pub within : ReadsAtMost result into
  pub bytes : ReadConsumes old.left new.left result into
  pub cause : HasCause old.faults new.faults result

-- so many bytes of a piece, at least one where it is not empty
abbrev pub GivesWithin : {E : Type 0} → Result ℕ E → List ℕ → Type 0
GivesWithin result piece = IfOk result (λ count. (count ≤ length piece) × (0 < length piece → 0 < count))

-- what `give` does: it appends a prefix of the piece, and a call that fails appends nothing
pub record Gives {E : Type 0} (old new : SinkState) (result : Result ℕ E) (piece : List ℕ) : Type 0 where
  pub within : GivesWithin result piece
  pub bytes : WriteAppends old.given new.given result piece
  pub cause : HasCause old.faults new.faults result
