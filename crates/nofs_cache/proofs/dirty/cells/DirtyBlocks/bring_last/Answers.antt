use Rattle.std.proofs.Common.{arith}
use Rattle.std.proofs.lemmas.List.Sorted.{IsPermutation-swap}
use Rattle.nofs_cache.specs.Dirty.Blocks.{entries_of}
use Rattle.nofs_cache.proofs.OnDirty.{last_exchanged}
use Rattle.nofs_cache.proofs.OnCached.Calls.{clean_not_dirty}
use Rattle.nofs_cache.proofs.dirty.cells.DirtyBlocks.bring_last.Goals as goal

pub returns-in-Some-clause-same : goal.returns-in-Some-clause-same
returns-in-Some-clause-same c =
    let low = c.in-Some.ensures.some.low in
    IsPermutation-swap _ _ _ _ low (omega arith) c.exchange_with_last.ensures.entries

pub returns-in-Some-clause-last : goal.returns-in-Some-clause-last
returns-in-Some-clause-last c =
    λ dirty. last_exchanged _ _ _ _ c.in-Some.ensures.some c.exchange_with_last.ensures.entries

pub returns-in-None-clause-last : goal.returns-in-None-clause-last
returns-in-None-clause-last c =
    λ dirty. absurd (clean_not_dirty (entries_of c.args.self.now) c.args.block c.in-None.ensures.none dirty)
