use Rattle.std.proofs.Common.{refl}
use Rattle.nofs_state.specs.Writes.Cells.{Stored}
use Rattle.nofs_state.proofs.OnWrites.TwoWrites.{one-write, stores-none}
use Rattle.nofs_state.proofs.writes.cells.write_one.Goals as goal

pub returns-in-Ok : goal.returns-in-Ok
returns-in-Ok g c = Stored (one-write _ _ _ _ _ (g.met.D.Disk.is_disk _) c.in-Ok.ensures) refl refl

pub returns-in-Err : goal.returns-in-Err
returns-in-Err g c = stores-none (g.met.D.Disk.is_disk _) c.in-Err.ensures c.stop.ensures.stopped c.stop.ensures.why
