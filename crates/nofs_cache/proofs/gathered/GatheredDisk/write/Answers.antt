use Rattle.std.proofs.Common.{arith}
use Rattle.nofs_cache.proofs.OnGathered.{gathered_writes}
use Rattle.nofs_cache.proofs.gathered.GatheredDisk.write.Goals as goal

pub returns-clause-writes : goal.returns-clause-writes
returns-clause-writes g c =
    let some = c.requires.spare in
    gathered_writes _ _ c.args.self.now.gathers _ _ c.args.block c.args.cell.now c.write.result (omega arith)
    c.write.ensures
