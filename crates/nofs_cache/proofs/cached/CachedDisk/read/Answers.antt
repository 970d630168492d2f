use Rattle.nofs_cache.specs.Dirty.Blocks.{entries_of}
use Rattle.nofs_cache.proofs.OnCached.Calls.{clean_not_dirty}
use Rattle.nofs_cache.proofs.OnCached.Past.{below_reads, kept_reads, read_holds}
use Rattle.nofs_cache.proofs.cached.CachedDisk.read.Goals as goal

pub invariant_of-self : goal.invariant_of-self
invariant_of-self g c = read_holds c.args.self.now c.read.ensures.stays

pub returns-in-Some-clause-reads : goal.returns-in-Some-clause-reads
returns-in-Some-clause-reads g c = kept_reads c.args.self.now c.in-Some.ensures.some c.requires g.met.D.Disk.is_disk

pub returns-in-None-clause-reads : goal.returns-in-None-clause-reads
returns-in-None-clause-reads g c = below_reads c.args.self.now c.in-None.ensures.none c.read.ensures

pub returns-in-None-clause-memory : goal.returns-in-None-clause-memory
returns-in-None-clause-memory g c =
    λ dirty. absurd (clean_not_dirty (entries_of c.args.self.now.dirty) c.args.block c.in-None.ensures.none dirty)
