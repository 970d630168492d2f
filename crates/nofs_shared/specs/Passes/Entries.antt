-- Entries of one caller, and what a section at the mount tells.
use Rattle.std.specs.Prelude.{◌≡◌, ℕ, Bool, true, ◌&&◌, List, [], ◌∷◌, map}
use Rattle.nofs_turn.specs.Lists.{entries_of}
use Rattle.nofs_history.specs.Callers.{done_of, is_by}
use Rattle.nofs_history.specs.Steps.{Fits, Made}
use Rattle.nofs_history.specs.declared.machine.history.Entry1.{Entry1}
use Rattle.nofs_history.specs.declared.machine.steps.Step.{Step}
use Rattle.nofs_history.specs.declared.machine.replies.Reply.{Reply}
use Rattle.nofs_shared.specs.Mount.Entries.{AddsStep}
use Rattle.nofs_shared.specs.Mount.Flushes.{is_whole_answer, names_whole}

-- all entries are the caller's
abbrev pub all_by : ℕ → List (ℕ × Entry1) → Bool
all_by c [] = true
all_by c (x ∷ xs) = is_by c x.1 && all_by c xs

-- the steps of a list of own entries
abbrev pub own_steps : List (ℕ × Entry1) → List Made
own_steps xs = map done_of (entries_of xs)

-- what a section tells: one step of the caller, whose reply fits
pub record TellsStep (caller : ℕ) (s : Step) (H K : List Entry1) (r : Reply) : Type 0 where
  -- its entry, or none where memory was wanting
  pub adds : AddsStep caller s r H K
  -- the reply is one that such a step may have
  pub fits : Fits s r
  -- a Flush of the whole disk is refused for nothing but a fault of the device or want of memory, over any disk
  pub whole : names_whole s ≡ true → is_whole_answer r ≡ true
