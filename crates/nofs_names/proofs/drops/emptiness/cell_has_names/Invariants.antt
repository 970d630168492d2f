use Rattle.std.proofs.Common.{◌+◌, ◌*◌}
use Rattle.nofs_names.proofs.OnDrops.Emptiness.{Emptying}
use Rattle.nofs_names.proofs.drops.emptiness.cell_has_names.Given as goal

abbrev pub invariant-loop-place : goal.invariant-loop-place
invariant-loop-place g l = Emptying (g.D.Disk.state l.fn.disk) (g.D.Disk.state l.disk) l.directory.inode (16 * l.slot)
    (16 * l.slot + l.place) l.records
