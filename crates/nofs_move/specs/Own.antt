-- Where a caller's own entries stand in a history, and one run of a command.
use Rattle.std.specs.Prelude.{◌≡◌, ℕ, zero, suc, ◌+◌, ◌-◌, if◌then◌else◌, List, [], ◌∷◌, ◌++◌, length}
use Rattle.nofs_history.specs.Callers.{is_by, steps_by}
use Rattle.nofs_history.specs.Steps.{Made}
use Rattle.nofs_history.specs.declared.machine.history.Entry1.{Entry1}
use Rattle.nofs_client.specs.declared.task.commands.Command.{Command}
use Rattle.nofs_client.specs.Progress.{start_of}
use Rattle.nofs_client.specs.Driver.{Asked}

-- the place in a history of the caller's step number k, both counted from 0
abbrev pub own_place : ℕ → List Entry1 → ℕ → ℕ
own_place c [] k = 0
own_place c (e ∷ es) zero = if is_by c e then 0 else suc (own_place c es zero)
own_place c (e ∷ es) (suc k) = suc (own_place c es (if is_by c e then k else suc k))

-- One run of a command, to its end or as far as it came: its steps stand one after the other among those that the
-- caller made in the history. Entries of other callers may stand between them
pub record RunBy (c : ℕ) (command : Command) (made : List Made) (H : List Entry1) : Type 0 where
  pub front : List Made
  pub back : List Made
  pub among : steps_by c H ≡ front ++ (made ++ back)
  pub asked : Asked command (start_of command) made

-- where the history has step number k of this run
abbrev pub place_in : (c : ℕ) (moves : Command) (made : List Made) (H : List Entry1) → RunBy c moves made H → ℕ → ℕ
place_in c moves made H run k = own_place c H (length run.front + k)

-- and its last step
abbrev pub end_in : (c : ℕ) (moves : Command) (made : List Made) (H : List Entry1) → RunBy c moves made H → ℕ
end_in c moves made H run = place_in c moves made H run (length made - 1)
