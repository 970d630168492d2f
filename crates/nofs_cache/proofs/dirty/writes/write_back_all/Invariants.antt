use Rattle.std.proofs.Common.{◌≡◌, ◌+◌, ◌*◌, ◌≤◌}
use Rattle.nofs_cache.specs.Dirty.Blocks.{entries_of, order_of}
use Rattle.nofs_cache.specs.Cached.{AreBelow, WrittenBack}
use Rattle.nofs_cache.proofs.dirty.writes.write_back_all.Given as goal

abbrev pub invariant-loop-place : goal.invariant-loop-place
invariant-loop-place g l =
    (l.dirty ≡ l.initial.dirty)
    × WrittenBack (g.D.Disk.state l.initial.under) (g.D.Disk.state l.under) (entries_of l.initial.dirty)
    (entries_of l.initial.dirty)
    × AreBelow (g.D.Disk.state l.under).now (entries_of l.initial.dirty) (order_of l.initial.dirty) l.place
    × ((g.D.Disk.state l.initial.under).spare ≤ (g.D.Disk.state l.under).spare + l.place)
    × ((g.D.Disk.state l.under).faults ≡ (g.D.Disk.state l.initial.under).faults)
    × ((g.D.Disk.state l.under).moment ≡ (g.D.Disk.state l.initial.under).moment + 2 * l.place)
