use Rattle.nofs_state.proofs.OnCores.WriteOuts.{out-done, out-failed, out-refused}
use Rattle.nofs_state.proofs.cores.mounted_disk.Core.write_out.Goals as goal

pub returns-in-Err-clause-out : goal.returns-in-Err-clause-out
returns-in-Err-clause-out g c = out-refused _ _ _ (g.met.D.Disk.is_disk _) c.ready.ensures

pub returns-in-Ok-write_out-clause-out : goal.returns-in-Ok-write_out-clause-out
returns-in-Ok-write_out-clause-out g c =
    out-done _ _ _ _ (g.met.D.Disk.is_disk _) c.ready.ensures _ c.in-Ok-write_out.ensures

pub returns-in-Err-write_out-clause-out : goal.returns-in-Err-write_out-clause-out
returns-in-Err-write_out-clause-out g c =
    out-failed _ _ _ _ (g.met.D.Disk.is_disk _) c.ready.ensures _ c.in-Err-write_out.ensures
