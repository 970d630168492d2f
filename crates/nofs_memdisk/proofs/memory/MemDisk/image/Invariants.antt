use Rattle.std.proofs.Common.{◌≡◌, ◌<◌, ℕ, length, drop}
use Rattle.nofs_disk.specs.Disk.{IsSizedCell, cell_at}
use Rattle.nofs_versions.specs.Memory.{held_after, picked, within}
use Rattle.nofs_memdisk.proofs.memory.MemDisk.image.Given as goal

abbrev pub invariant-loop-pick : goal.invariant-loop-pick
invariant-loop-pick l =
    (picked (within (length l.self.base.items) (held_after l.self.base.items l.self.calls.items).may) l.base.items
    (drop l.pick-index l.picks) ≡ picked
    (within (length l.self.base.items) (held_after l.self.base.items l.self.calls.items).may)
    (held_after l.self.base.items l.self.calls.items).now l.picks)
    × (length l.base.items ≡ length l.self.base.items)
    × ((b : ℕ) → b < length l.base.items → IsSizedCell (cell_at l.base.items b))
