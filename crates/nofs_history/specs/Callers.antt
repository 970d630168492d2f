-- The entries of one caller in a history, and the steps that they made.
use Rattle.std.specs.Prelude.{ℕ, ◌==◌, Bool, List, map, filter}
use Rattle.nofs_history.specs.Steps.{Made}
use Rattle.nofs_history.specs.declared.machine.history.Entry1.{Entry1}
use Rattle.nofs_history.specs.declared.machine.steps.Step.{Step}

-- the step of what was made
abbrev pub made_step : Made → Step
made_step m = m.0

-- the step of an entry, with its reply
abbrev pub done_of : Entry1 → Made
done_of e = (e.step, e.reply)

-- whether an entry is this caller's
abbrev pub is_by : ℕ → Entry1 → Bool
is_by c e = e.caller == c

-- the steps of one caller in a history, with their replies
abbrev pub steps_by : ℕ → List Entry1 → List Made
steps_by c es = map done_of (filter (is_by c) es)
