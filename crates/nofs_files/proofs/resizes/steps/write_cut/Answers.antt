use Rattle.std.proofs.Common.{[], ◌∷◌}
use Rattle.nofs_files.specs.Resizes.{maybe}
use Rattle.nofs_files.proofs.OnResizes.Blocks.{maybe-fails, maybe-then}
use Rattle.nofs_files.proofs.resizes.steps.write_cut.Goals as goal

pub returns-in-Ok : goal.returns-in-Ok
returns-in-Ok g c = maybe-then (g.D.Disk.state c.args.disk.now) (g.D.Disk.state c.write.new.self)
    (g.D.Disk.state c.write_edge-in-Ok.new.disk) c.args.tail.now
    c.in-Some.it (maybe c.args.edge.now.below (maybe c.args.edge.now.above ((c.args.block, c.args.table.now) ∷ [])))
    c.write_edge-in-Ok.result
    (g.met.D.Disk.is_disk c.write.new.self) c.in-Some.is c.in-Ok.ensures c.write_edge-in-Ok.ensures

pub returns-in-Err : goal.returns-in-Err
returns-in-Err g c =
    maybe-fails (g.D.Disk.state c.args.disk.now) (g.D.Disk.state c.write.new.self) c.args.tail.now c.in-Some.it
    (maybe c.args.edge.now.below (maybe c.args.edge.now.above ((c.args.block, c.args.table.now) ∷ []))) c.in-Err.failed
    (g.met.D.Disk.is_disk c.write.new.self) c.in-Some.is c.in-Err.ensures
