use Rattle.std.proofs.Common.{[], None, arith}
use Rattle.std.proofs.KnownBytes.{Consumes-nil}
use Rattle.nofs_tool.specs.Begin.Mounts.{HasNoMount}
use Rattle.nofs_tool.proofs.OnRuns.Said.{says-cause}
use Rattle.nofs_tool.proofs.visits.wire.wire_outcome.Goals as goal

pub returns-in-Err-clause-unserved : goal.returns-in-Err-clause-unserved
returns-in-Err-clause-unserved g c = λ none. let e = c.refused.ensures in
    says-cause (HasNoMount g.D.Disk.state None c.args.disk) _ _ c.in-Err.why.cause _ _ _ e.is.1 e.is.0
    c.in-Err.ensures.refused e.says

pub returns-in-Err-clause-taken : goal.returns-in-Err-clause-taken
returns-in-Err-clause-taken g c = ([], Consumes-nil _, omega arith)
