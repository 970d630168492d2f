-- The two steps of the instance, and their replies.
use Rattle.std.specs.Prelude.{◌≡◌, ℕ, Bool, true, false, not, List, [], ◌∷◌, ◌++◌}
use Rattle.nofs_history.specs.declared.machine.history.Entry1.{Entry1}
use Rattle.nofs_history.specs.declared.machine.steps.Step.{Step}
use Rattle.nofs_history.specs.declared.machine.steps.Step.TheVariants as step
use Rattle.nofs_history.specs.declared.machine.replies.Reply.{Reply}
use Rattle.nofs_history.specs.declared.machine.replies.Reply.TheVariants as reply

-- a block was found to be free
abbrev pub tells_free : Reply → Bool
tells_free (reply.Seen used) = not used
tells_free _ = false

abbrev pub is_stored : Reply → Bool
is_stored reply.Stored = true
is_stored _ = false

-- the history has one entry more, with this step and this reply
pub record AddsOne (s : Step) (r : Reply) (H K : List Entry1) : Type 0 where
  pub e : Entry1
  pub added : K ≡ H ++ e ∷ []
  pub made : e.step ≡ s
  pub replied : e.reply ≡ r

-- a block was examined and found free, and then these bytes were put to the first slot of the label file
pub record SeesAndPuts (block : ℕ) (bytes : List ℕ) (H : List Entry1) : Type 0 where
  pub seen : Entry1
  pub put : Entry1
  pub is : H ≡ seen ∷ put ∷ []
  pub seen_step : seen.step ≡ step.SeeBlock block
  pub seen_free : seen.reply ≡ reply.Seen false
  pub put_step : put.step ≡ step.Put 2 2 0 0 bytes
  pub put_stored : put.reply ≡ reply.Stored
