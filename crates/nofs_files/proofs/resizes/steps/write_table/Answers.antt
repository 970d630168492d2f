use Rattle.nofs_state.proofs.OnWrites.TwoWrites.{one-write}
use Rattle.nofs_files.proofs.resizes.steps.write_table.Goals as goal

pub returns : goal.returns
returns g c = one-write (g.D.Disk.state c.args.disk.now)
    (g.D.Disk.state c.write.new.self) c.args.block c.args.table.now c.write.result
    (g.met.D.Disk.is_disk c.write.new.self) c.write.ensures
