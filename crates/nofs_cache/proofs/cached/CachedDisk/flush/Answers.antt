use Rattle.std.proofs.Common.{arith}
use Rattle.std.proofs.lemmas.List.{length-map}
use Rattle.nofs_cache.specs.Dirty.Blocks.{entries_of}
use Rattle.nofs_cache.specs.declared.dirty.past.CacheCall.TheVariants.{Flush}
use Rattle.nofs_cache.proofs.OnCached.Past.{call_leaves, flush_does, flush_holds}
use Rattle.nofs_cache.proofs.cached.CachedDisk.flush.Goals as goal

pub invariant_of-self : goal.invariant_of-self
invariant_of-self g c =
    let old = c.args.self.now in
    let below = c.write_back_and_flush-result in
    let kept_room = old.kept_room in
    let below_room = old.below_room in
    let room = below.ensures.room in
    let no_more = below.ensures.no_more in
    let spare = below.ensures.spare in
    flush_holds old below.new.dirty (g.met.D.Disk.is_disk below.new.under) c.requires c.is_ok.ensures.value
    c.moment-began.ensures c.moment-ended.ensures
    below.ensures.settles below.ensures.blocks c.add.ensures (omega arith) (omega arith)

pub returns-clause-flushes : goal.returns-clause-flushes
returns-clause-flushes g c =
    let below = c.write_back_and_flush-result in
    rw c.add.ensures (flush_does c.args.self.now below.new.dirty
    (g.met.D.Disk.is_disk below.new.under) c.requires c.is_ok.ensures.value c.moment-began.ensures
    c.moment-ended.ensures below.ensures.settles)

pub returns-clause-left : goal.returns-clause-left
returns-clause-left g c =
    rw c.add.ensures
    (call_leaves c.args.self.now (Flush c.is_ok.result c.moment-began.result c.moment-ended.result) _ _
    c.moment-began.ensures c.moment-ended.ensures)

pub returns-clause-calls : goal.returns-clause-calls
returns-clause-calls g c =
    let calls = c.write_back_and_flush-result.ensures.calls in
    let before = length-map (entries_of c.args.self.now.dirty) (λ e. e.block) in
    let after = length-map (entries_of c.write_back_and_flush-result.new.dirty) (λ e. e.block) in
    omega arith
