use Rattle.nofs_cache.specs.declared.dirty.past.CacheCall.TheVariants.{Write}
use Rattle.nofs_cache.proofs.OnCached.Past.{call_leaves, write_does, write_holds}
use Rattle.nofs_cache.proofs.cached.CachedDisk.write.Goals as goal

pub invariant_of-self : goal.invariant_of-self
invariant_of-self g c =
    let old = c.args.self.now in
    write_holds old c.put.new.self c.of.result
    (g.met.D.Disk.is_disk old.under) c.requires.block c.requires.spare c.note_sizes.ensures c.of.ensures
    c.moment-at.ensures c.put.ensures.entries c.put.ensures.blocks c.put.ensures.room c.add.ensures

pub returns-clause-writes : goal.returns-clause-writes
returns-clause-writes g c =
    let old = c.args.self.now in
    rw c.add.ensures (write_does old c.put.new.self c.of.result
    (g.met.D.Disk.is_disk old.under) c.requires.block c.requires.spare c.note_sizes.ensures
    c.of.ensures c.moment-at.ensures c.put.ensures.entries)

pub returns-clause-left : goal.returns-clause-left
returns-clause-left g c =
    rw c.add.ensures (call_leaves c.args.self.now
    (Write c.args.block c.of.result c.moment-at.result) _ _ c.moment-at.ensures c.moment-at.ensures)
