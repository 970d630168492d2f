use Rattle.std.proofs.Common.{◌*◌, None}
use Rattle.nofs_agree.specs.Reads.{IsLast}
use Rattle.nofs_names.proofs.OnSearches.Loops.{Going}
use Rattle.nofs_names.proofs.searches.slots.search.Given as goal

abbrev pub invariant-loop-slot : goal.invariant-loop-slot
invariant-loop-slot g l =
    Going (g.D.Disk.state l.fn.disk) (g.D.Disk.state l.disk) l.directory.inode l.name l.wants_place 0 0 (16 * l.slot)
    l.slot
    (record { dead = None; empty = None; lost = None; hole = None }) l.unfound l.records
    × IsLast (g.D.Disk.state l.disk) l.names
