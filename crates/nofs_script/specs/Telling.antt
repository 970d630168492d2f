-- A text on its way to a sink.
use Rattle.std.specs.Prelude.{◌≡◌, ℕ, List, ◌++◌, OnErr, OnOk}
use Rattle.std.specs.declared.result.Result.{Result}
use Rattle.nofs_io.specs.Calls.{HasCause, SinkState}
use Rattle.nofs_io.specs.Texts.{AppendsAll, AppendsPart}

-- a text went on behind what stood in a room: what the sink took and what stands in the room now are both, in order
abbrev pub GoesThrough : SinkState → SinkState → List ℕ → List ℕ → List ℕ → Type 0
GoesThrough old new before now text = (told : List ℕ) × AppendsAll old new told × (told ++ now ≡ before ++ text)

-- it did so by the answer of the call; a sink that failed took a part of both
pub record TellsThrough {T E : Type 0} (old new : SinkState) (before now : List ℕ) (result : Result T E) (text : List ℕ)
    : Type 0 where
  pub whole : OnOk result (GoesThrough old new before now text)
  pub part : OnErr result (AppendsPart old new (before ++ text))
  pub cause : HasCause old.faults new.faults result
