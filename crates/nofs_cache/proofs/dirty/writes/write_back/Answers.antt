use Rattle.nofs_cache.proofs.OnCached.WritesBelow.{last_out, last_writes_back_err, last_writes_back_ok}
use Rattle.nofs_cache.proofs.dirty.writes.write_back.Goals as goal

pub returns-in-Ok-clause-writes_back : goal.returns-in-Ok-clause-writes_back
returns-in-Ok-clause-writes_back g c =
    last_writes_back_ok _ _ _ _ _ _ c.write.result _ c.in-Some.ensures.some (g.met.D.Disk.is_disk c.write.new.self)
    c.in-Ok.is c.write.ensures c.pop.ensures.entries

pub returns-in-Ok-clause-out : goal.returns-in-Ok-clause-out
returns-in-Ok-clause-out g c =
    (c.in-Some.ensures.some.some, last_out _ _ _ _ c.in-Some.ensures.some c.pop.ensures.entries)

pub returns-in-Err-clause-writes_back : goal.returns-in-Err-clause-writes_back
returns-in-Err-clause-writes_back g c =
    last_writes_back_err _ _ _ _ _ c.write.result _ c.in-Some.ensures.some
    (g.met.D.Disk.is_disk c.write.new.self) c.in-Err.is c.write.ensures
