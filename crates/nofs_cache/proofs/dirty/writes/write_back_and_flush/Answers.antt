use Rattle.nofs_cache.proofs.OnDirty.{settles_no_more}
use Rattle.nofs_cache.proofs.OnCached.Settled.{settles_flush}
use Rattle.nofs_cache.proofs.dirty.writes.write_back_and_flush.Goals as goal

pub returns-in-Ok-clause-settles : goal.returns-in-Ok-clause-settles
returns-in-Ok-clause-settles g c =
    rw (← c.set_order.ensures.entries)
    (settles_flush _ _ _ _ _ _ c.write_back_all.ensures.writes_back c.in-Ok.ensures.wrote.clean
    c.in-Ok.ensures.wrote.no_fault (g.met.D.Disk.is_disk c.flush.new.self) c.flush.ensures)

pub returns-in-Err-clause-settles : goal.returns-in-Err-clause-settles
returns-in-Err-clause-settles g c =
    rw (← c.set_order.ensures.entries)
    (settles_no_more _ _ _ _ _ c.write_back_all.ensures.writes_back c.in-Err.ensures.stopped.cause)
