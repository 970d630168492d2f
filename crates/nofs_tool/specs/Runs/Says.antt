-- What a sink was told: a text, or a part of it.
use Rattle.std.specs.Prelude.{◌⊎◌, ℕ, List, OnErr, OnOk}
use Rattle.std.specs.declared.result.Result.{Result}
use Rattle.nofs_disk.specs.Disk.{Rose}
use Rattle.nofs_io.specs.Calls.{HasCause, SinkState}
use Rattle.nofs_io.specs.Texts.{AppendsAll, AppendsPart}

-- the sink took this text, or a part of it where it failed
abbrev pub Prints : SinkState → SinkState → List ℕ → Type 0
Prints old new text = AppendsAll old new text ⊎ (AppendsPart old new text × Rose old.faults new.faults)

-- it did so by the answer of the call
pub record Tells {T E : Type 0} (old new : SinkState) (result : Result T E) (text : List ℕ) : Type 0 where
  pub whole : OnOk result (AppendsAll old new text)
  pub part : OnErr result (AppendsPart old new text)
  pub cause : HasCause old.faults new.faults result
