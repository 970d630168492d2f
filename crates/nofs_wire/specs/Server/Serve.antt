-- What `serve` takes, makes and writes.
use Rattle.std.specs.Prelude.{◌≡◌, ℕ, ◌+◌, ◌≤◌, List, [], ◌++◌, length, take, map, flat_map}
use Rattle.std.specs.declared.option.Option.{Option}
use Rattle.std.specs.Io.KnownBytes.{Consumes, Appends, IsAtEnd}
use Rattle.nofs_history.specs.Steps.{Made}
use Rattle.nofs_history.specs.declared.machine.steps.Step.{Step}
use Rattle.nofs_history.specs.Callers.{made_step}
use Rattle.nofs_wire.specs.declared.server.serve.WireEnd.{WireEnd}
use Rattle.nofs_wire.specs.declared.server.serve.WireEnd.TheVariants as ended
use Rattle.nofs_wire.specs.Frames.Split.{frames_of, rest_of, IsBad, IsCut}
use Rattle.nofs_wire.specs.Frames.Replies.{reply_bytes}

abbrev pub made_bytes : Made → List ℕ
made_bytes m = reply_bytes m.1

-- the reply frames of the steps that were made, in order
abbrev pub replies_of : List Made → List ℕ
replies_of made = flat_map made_bytes made

-- the steps made are those of the bytes, and each reply was written whole
pub record IsServed (bytes : List ℕ) (made : List Made) (given : List ℕ) : Type 0 where
  pub steps : map made_step made ≡ frames_of bytes
  pub replies : given ≡ replies_of made

-- the steps made are the first of those of the bytes, and the first bytes of their replies were written
pub record IsServedInPart (bytes : List ℕ) (made : List Made) (given : List ℕ) : Type 0 where
  pub left : List Step
  pub steps : frames_of bytes ≡ map made_step made ++ left
  pub count : ℕ
  pub replies : given ≡ take count (replies_of made)

-- the rest of the bytes stands at a place
abbrev pub IsRestAt : ℕ → List ℕ → Type 0
IsRestAt at bytes = at + length (rest_of bytes) ≡ length bytes

-- why it ended, by the bytes taken and by what the source has left
abbrev pub EndsSo : ℕ → WireEnd → Option (List ℕ) → List ℕ → List Made → List ℕ → Type 0
EndsSo most ended.End left taken made given =
    IsServed taken made given × (rest_of taken ≡ []) × IsAtEnd left × (length taken ≤ most)
EndsSo most (ended.Cut at) left taken made given =
    IsServed taken made given × IsCut (rest_of taken) × IsRestAt at taken × IsAtEnd left × (length taken ≤ most)
EndsSo most (ended.Bad at) left taken made given =
    IsServed taken made given × IsBad (rest_of taken) × IsRestAt at taken × (length taken ≤ most)
EndsSo most ended.TooLong left taken made given =
    IsServed (take most taken) made given × (length taken ≡ most + 1)
EndsSo most ended.SourceFault left taken made given = IsServed taken made given × (length taken ≤ most)
EndsSo most ended.SinkFault left taken made given = IsServedInPart taken made given × (length taken ≤ most)
EndsSo most ended.OutOfMemory left taken made given = IsServedInPart taken made given × (length taken ≤ most)

-- bytes were taken, steps made and replies written, up to an end
pub record Serves (most : ℕ) (end : WireEnd) (left new_left given new_given : Option (List ℕ))
    (made new_made : List Made) : Type 0 where
  pub taken : List ℕ
  pub steps : List Made
  pub written : List ℕ
  pub takes : Consumes left new_left taken
  pub makes : new_made ≡ made ++ steps
  pub writes : Appends given new_given written
  pub ends : EndsSo most end new_left taken steps written
