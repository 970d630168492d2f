use Rattle.std.proofs.Common.{arith}
use Rattle.nofs_cache.proofs.OnGathered.{gathered_flush_failed}
use Rattle.nofs_cache.proofs.gathered.GatheredDisk.flush.Goals as goal

pub returns-in-Err-clause-flushes : goal.returns-in-Err-clause-flushes
returns-in-Err-clause-flushes g c =
    let some = c.requires in
    gathered_flush_failed _ _ c.args.self.now.gathers _ _ _ (omega arith) c.in-Err.ensures
