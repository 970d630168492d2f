use Rattle.std.proofs.Common.{◌*◌}
use Rattle.nofs_agree.specs.Reads.{IsLast}
use Rattle.nofs_names.proofs.OnDrops.Emptiness.{Emptying}
use Rattle.nofs_names.proofs.drops.emptiness.has_names.Given as goal

abbrev pub invariant-loop-slot : goal.invariant-loop-slot
invariant-loop-slot g l = Emptying (g.D.Disk.state l.fn.disk) (g.D.Disk.state l.disk) l.directory.inode 0
    (16 * l.slot) l.records × IsLast (g.D.Disk.state
    l.disk)
    l.names
