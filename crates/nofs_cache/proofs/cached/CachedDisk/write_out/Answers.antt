use Rattle.std.proofs.Common.{arith}
use Rattle.nofs_cache.proofs.OnCached.Past.{out_does, out_holds, out_leaves}
use Rattle.nofs_cache.proofs.cached.CachedDisk.write_out.Goals as goal

pub invariant_of-self : goal.invariant_of-self
invariant_of-self g c =
    let old = c.args.self.now in
    let did = c.write_back.ensures in
    let kept_room = old.kept_room in
    let below_room = old.below_room in
    let room = did.shrinks.keeps.room in
    let no_more = did.shrinks.no_more in
    let spare = did.spends.all in
    out_holds old c.write_back.new.dirty did.writes_back did.shrinks.keeps.blocks (omega arith) (omega arith)

pub returns-clause-writes_out : goal.returns-clause-writes_out
returns-clause-writes_out g c =
    let did = c.write_back.ensures in
    out_does c.args.self.now did.writes_back did.out did.stopped did.wrote c.requires

pub returns-clause-left : goal.returns-clause-left
returns-clause-left g c = out_leaves c.args.self.now _ _
