use Rattle.nofs_cache.specs.Dirty.Blocks.{entries_of}
use Rattle.nofs_cache.specs.Dirty.Past.{cache_calls}
use Rattle.nofs_cache.proofs.OnCached.Calls.{agrees_of, not_dirty_clean}
use Rattle.nofs_cache.proofs.OnCached.Settled.{agrees_clean, no_entries}
use Rattle.nofs_cache.proofs.cached.Cached.below.Goals as goal

pub returns-clause-now : goal.returns-clause-now
returns-clause-now g c none =
    let self = c.args.self in
    let E = entries_of self.dirty in
    agrees_clean _ _ E (no_entries E none)
    (agrees_of (g.D.Disk.state self.under) (g.D.Disk.state self.first.value) (cache_calls self.past.value) E self.kept)

pub returns-clause-clean : goal.returns-clause-clean
returns-clause-clean g c b none =
    let self = c.args.self in
    let E = entries_of self.dirty in
    (agrees_of (g.D.Disk.state self.under) (g.D.Disk.state self.first.value)
    (cache_calls self.past.value) E self.kept).clean b (not_dirty_clean E b none)
