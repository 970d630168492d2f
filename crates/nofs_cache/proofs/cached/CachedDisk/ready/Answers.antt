use Rattle.std.proofs.Common.{ap, arith, length}
use Rattle.nofs_cache.proofs.OnCached.Past.{ready_does, ready_holds}
use Rattle.nofs_cache.proofs.cached.CachedDisk.ready.Goals as goal

pub invariant_of-self-in-Err-1 : goal.invariant_of-self-in-Err-1
invariant_of-self-in-Err-1 g c =
    let old = c.args.self.now in
    let same = c.reserve.ensures in
    let kept_room = old.kept_room in
    let below_room = old.below_room in
    let more = same.more in
    let no_less = c.ready.ensures.no_less in
    ready_holds old c.reserve.new.self old.spare c.ready.ensures same.blocks same.entries old.room
    (omega arith) (omega arith)

pub returns-in-Err : goal.returns-in-Err
returns-in-Err g c =
    ready_does c.args.self.now c.args.self.now.spare _ c.ready.ensures c.reserve.ensures.entries (omega arith) tt

pub invariant_of-self-in-Ok : goal.invariant_of-self-in-Ok
invariant_of-self-in-Ok g c =
    let same = c.reserve.ensures in
    let len = ap length same.entries in
    let room = c.in_ok-reserve.ensures.room in
    let below = c.in-Ok.ensures.room in
    let dirty = c.len.ensures in
    ready_holds c.args.self.now c.reserve.new.self c.args.calls c.ready.ensures same.blocks same.entries (omega arith)
    (omega arith) (omega arith)

pub returns-in-Ok : goal.returns-in-Ok
returns-in-Ok g c =
    ready_does c.args.self.now c.args.calls _ c.ready.ensures c.reserve.ensures.entries (omega arith) (omega arith)
