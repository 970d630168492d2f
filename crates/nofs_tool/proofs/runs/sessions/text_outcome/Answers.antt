use Rattle.std.proofs.Common.{inl, inr}
use Rattle.nofs_tool.proofs.runs.sessions.text_outcome.Goals as goal

pub returns-in-Ok-clause-unserved : goal.returns-in-Ok-clause-unserved
returns-in-Ok-clause-unserved g c = λ none. inr (c.session_outcome.ensures.unserved none)

pub returns-in-Err-Wrong-clause-unserved : goal.returns-in-Err-Wrong-clause-unserved
returns-in-Err-Wrong-clause-unserved g c = λ none. inl (inl c.told_line.ensures.is.0, c.told_line.ensures.is.1)

pub returns-in-Err-OutOfMemory-clause-unserved : goal.returns-in-Err-OutOfMemory-clause-unserved
returns-in-Err-OutOfMemory-clause-unserved g c = λ none. let is = c.told_nothing.ensures.is in
    inl (inr (inr (inl is.0)), is.1)
