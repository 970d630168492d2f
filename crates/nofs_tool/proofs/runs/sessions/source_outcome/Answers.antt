use Rattle.std.proofs.Common.{inl, inr}
use Rattle.nofs_tool.proofs.runs.sessions.source_outcome.Goals as goal

pub returns-in-Err-Source-clause-unserved : goal.returns-in-Err-Source-clause-unserved
returns-in-Err-Source-clause-unserved g c = λ none. let is = c.told.ensures.is in inl (inr (inl is.0), is.1)

pub returns-in-Err-TooLong-clause-unserved : goal.returns-in-Err-TooLong-clause-unserved
returns-in-Err-TooLong-clause-unserved g c = λ none. let is = c.told-in-Err-TooLong.ensures.is in
    inl (inr (inr (inr is.0)), is.1)

pub returns-in-Err-OutOfMemory-clause-unserved : goal.returns-in-Err-OutOfMemory-clause-unserved
returns-in-Err-OutOfMemory-clause-unserved g c = λ none. let is = c.told_nothing.ensures.is in
    inl (inr (inr (inl is.0)), is.1)
