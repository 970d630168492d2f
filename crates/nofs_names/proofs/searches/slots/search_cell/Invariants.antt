use Rattle.std.proofs.Common.{◌+◌, ◌*◌, ◌≤◌}
use Rattle.nofs_names.proofs.OnSearches.Loops.{Going}
use Rattle.nofs_names.proofs.searches.slots.search_cell.Given as goal

abbrev pub invariant-loop-place : goal.invariant-loop-place
invariant-loop-place g l = Going (g.D.Disk.state l.fn.disk) (g.D.Disk.state l.disk) l.directory.inode l.name
    l.wants_place (16 * l.slot) l.slot (16 * l.slot + l.place)
    l.slot l.fn.unfound l.unfound l.records × (l.place ≤ 16)
