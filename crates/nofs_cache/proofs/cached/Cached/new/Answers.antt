use Rattle.std.proofs.Common.{ap}
use Rattle.nofs_cache.proofs.OnCached.Calls.{kept_begins}
use Rattle.nofs_cache.proofs.cached.Cached.new.Goals as goal

pub invariant_of-result-clause-kept : goal.invariant_of-result-clause-kept
invariant_of-result-clause-kept g c =
    kept_begins (g.D.Disk.state c.args.under) _ (g.met.D.Disk.is_disk c.args.under) c.in-Ok.ensures.entries
    (ap g.D.Disk.state c.of-first.ensures)
    c.start-past.ensures
