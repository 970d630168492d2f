use Rattle.std.proofs.Common.{◌≤◌, ◌+◌, take}
use Rattle.nofs_versions.specs.Memory.{IsSearch, held_after}
use Rattle.nofs_memdisk.proofs.memory.MemDisk.version.Given as goal

abbrev pub invariant-loop-call : goal.invariant-loop-call
invariant-loop-call l =
    IsSearch (held_after l.self.base.items (take l.call-index l.self.calls.items)) l.block l.version l.search ×
    (l.search.count ≤ l.call-index + 1)
