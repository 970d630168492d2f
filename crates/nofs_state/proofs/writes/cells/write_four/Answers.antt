use Rattle.nofs_state.proofs.OnWrites.TwoWrites.{stores-first, stores-none}
use Rattle.nofs_state.proofs.writes.cells.write_four.Goals as goal

pub returns-in-Ok : goal.returns-in-Ok
returns-in-Ok g c = stores-first (g.met.D.Disk.is_disk _) c.in-Ok.ensures c.write_three.ensures

pub returns-in-Err : goal.returns-in-Err
returns-in-Err g c = stores-none (g.met.D.Disk.is_disk _) c.in-Err.ensures c.stop.ensures.stopped c.stop.ensures.why
