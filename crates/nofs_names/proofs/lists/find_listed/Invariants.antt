use Rattle.std.proofs.Common.{◌≤◌}
use Rattle.nofs_names.proofs.OnLists.Search.{Seeking}
use Rattle.nofs_names.proofs.lists.find_listed.Given as goal

abbrev pub invariant-loop-slot : goal.invariant-loop-slot
invariant-loop-slot g l = Seeking (g.D.Disk.state l.fn.disk)
    (g.D.Disk.state l.disk) l.directory.inode l.from l.slot l.names × (l.from ≤ l.slot)
