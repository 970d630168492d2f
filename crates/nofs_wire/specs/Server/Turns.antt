-- What one turn of the server does: it takes some bytes, or answers one frame, or ends.
use Rattle.std.specs.Prelude.{◌≡◌, ℕ, ◌+◌, ◌*◌, ◌<◌, ◌≤◌, List, [], ◌∷◌, ◌++◌, length, take, map, option_to_list, Some}
use Rattle.std.specs.Prelude.{None}
use Rattle.std.specs.declared.option.Option.{Option}
use Rattle.std.specs.Io.KnownBytes.{Consumes, Appends, IsAtEnd}
use Rattle.nofs_io.specs.Calls.{CountRose}
use Rattle.nofs_history.specs.Steps.{Made}
use Rattle.nofs_history.specs.declared.machine.steps.Step.{Step}
use Rattle.nofs_history.specs.Callers.{made_step}
use Rattle.nofs_wire.specs.declared.server.answers.Answered.{Answered}
use Rattle.nofs_wire.specs.declared.server.answers.Answered.TheVariants as answered
use Rattle.nofs_wire.specs.declared.server.serve.WireEnd.{WireEnd}
use Rattle.nofs_wire.specs.declared.server.serve.WireEnd.TheVariants as ended
use Rattle.nofs_wire.specs.Frames.Split.{front_of, split_of, step_in, IsBad, IsCut}
use Rattle.nofs_wire.specs.Frames.Replies.{reply_bytes}
use Rattle.nofs_wire.specs.Server.Serve.{replies_of}
use Rattle.nofs_wire.specs.Server.Buffers.{BuffersState}

-- the count of faults of a source or a sink, where an end may be its fault
pub record FailsAt (end : Type 0) (before now : ℕ) : Type 0 where
  -- it never falls
  pub later : before ≤ now
  -- it rose where that end came
  pub fault : end → CountRose before now

-- the step was made or not, and there is no reply
pub record AnswersInPart (step : Option Step) (made new_made : List Made) : Type 0 where
  pub steps : List Made
  pub left : List Step
  pub makes : new_made ≡ made ++ steps
  pub first : option_to_list step ≡ map made_step steps ++ left

-- the step was made, and this is the frame of its reply
pub record AnswersWhole (step : Option Step) (made new_made : List Made) (frame : List ℕ) : Type 0 where
  pub one : Made
  pub is : step ≡ Some one.0
  pub makes : new_made ≡ made ++ one ∷ []
  pub reply : frame ≡ reply_bytes one.1

-- how far the step of a body was answered
abbrev pub AnswersSo : Answered → Option Step → List Made → List Made → List ℕ → Type 0
AnswersSo answered.Whole step made new_made frame = AnswersWhole step made new_made frame
AnswersSo answered.Bad step made new_made frame = (step ≡ None) × (new_made ≡ made)
AnswersSo answered.OutOfMemory step made new_made frame = AnswersInPart step made new_made

-- these bytes are the frames of just these steps, whatever follows
abbrev pub IsFramed : List Made → List ℕ → Type 0
IsFramed steps front =
    (rest : List ℕ) → split_of (front ++ rest) ≡ (map made_step steps ++ (split_of rest).0, (split_of rest).1)

-- bytes came behind those of a window, and the first of them all were the frames of the steps that were made
pub record UsesFrames (window new_window : List ℕ) (taken new_taken : ℕ) (left new_left : Option (List ℕ))
    (made new_made : List Made) : Type 0 where
  pub bytes : List ℕ
  pub front : List ℕ
  pub steps : List Made
  pub takes : Consumes left new_left bytes
  pub counts : new_taken ≡ taken + length bytes
  pub uses : window ++ bytes ≡ front ++ new_window
  pub framed : IsFramed steps front
  pub makes : new_made ≡ made ++ steps
  pub nearer : length new_window < length window + 2 * length bytes

-- of the replies that were kept and of those to these steps the first were given, and the others are kept
pub record GivesReplies (kept new_kept : List ℕ) (steps : List Made) (given new_given : Option (List ℕ)) : Type 0 where
  pub written : List ℕ
  pub gives : Appends given new_given written
  pub keeps : kept ++ replies_of steps ≡ written ++ new_kept

-- the server goes on: it took bytes, used others for the steps that it made, and gave replies
pub record GoesOn (old new : BuffersState) (left new_left given new_given : Option (List ℕ))
    (made new_made : List Made) : Type 0 where
  pub frames : UsesFrames old.window new.window old.taken new.taken left new_left made new_made
  pub replies : GivesReplies old.kept new.kept frames.steps given new_given

-- the step of the frame in front was made and the reply to it kept, or all that came is as it was
abbrev pub KeepsAnswer : Answered → BuffersState → BuffersState → List Made → List Made → Type 0
KeepsAnswer answered.Whole old new made new_made = (one : Made) × (front : List ℕ) × (old.window ≡ front ++ new.window)
    × (0 < length front) × IsFramed (one ∷ []) front
    × (new.taken ≡ old.taken) × (new.kept ≡ old.kept ++ reply_bytes one.1) × (new_made ≡ made ++ one ∷ [])
KeepsAnswer answered.Bad old new made new_made = (new ≡ old) × IsBad old.window × (new_made ≡ made)
KeepsAnswer answered.OutOfMemory old new made new_made =
    (new ≡ old) × AnswersInPart (step_in (front_of old.window) old.window) made new_made

-- nothing was taken or made, and the replies that were kept were given
abbrev pub IsNothing : BuffersState → List ℕ → List Made → List ℕ → Type 0
IsNothing buffers bytes steps written = (bytes ≡ []) × (steps ≡ []) × (written ≡ buffers.kept)

-- no whole frame of a step is in front
abbrev pub HasNone : List ℕ → Type 0
HasNone window = step_in (front_of window) window ≡ None

-- nothing was taken, the step in front was made or not, and the first bytes of the replies that were kept were given
abbrev pub IsInPart : BuffersState → List ℕ → List Made → List ℕ → Type 0
IsInPart buffers bytes steps written =
    (bytes ≡ []) × (left : List Step) × (count : ℕ)
    × (option_to_list (step_in (front_of buffers.window) buffers.window) ≡ map made_step steps ++ left)
    × (count ≤ length buffers.kept) × (written ≡ take count buffers.kept)

-- why it ends here, by the bytes that came and weren't used
abbrev pub StopsSo : ℕ → WireEnd → BuffersState → Option (List ℕ) → List ℕ → List Made → List ℕ → Type 0
StopsSo most ended.End buffers left bytes steps written =
    IsNothing buffers bytes steps written × (buffers.window ≡ []) × IsAtEnd left
StopsSo most (ended.Cut at) buffers left bytes steps written =
    IsNothing buffers bytes steps written × IsCut buffers.window × (at + length buffers.window ≡ buffers.taken)
    × IsAtEnd left
StopsSo most (ended.Bad at) buffers left bytes steps written =
    IsNothing buffers bytes steps written × IsBad buffers.window × (at + length buffers.window ≡ buffers.taken)
StopsSo most ended.TooLong buffers left bytes steps written =
    HasNone buffers.window × (buffers.taken ≡ most) × (length bytes ≡ 1) × (steps ≡ []) × (written ≡ buffers.kept)
StopsSo most ended.SourceFault buffers left bytes steps written =
    IsNothing buffers bytes steps written × HasNone buffers.window
StopsSo most ended.SinkFault buffers left bytes steps written = IsInPart buffers bytes steps written
StopsSo most ended.OutOfMemory buffers left bytes steps written = IsInPart buffers bytes steps written

-- the server ends
pub record Stops (most : ℕ) (end : WireEnd) (buffers : BuffersState) (left new_left given new_given : Option (List ℕ))
    (made new_made : List Made) : Type 0 where
  pub bytes : List ℕ
  pub takes : Consumes left new_left bytes
  pub steps : List Made
  pub makes : new_made ≡ made ++ steps
  pub written : List ℕ
  pub gives : Appends given new_given written
  pub ends : StopsSo most end buffers new_left bytes steps written
