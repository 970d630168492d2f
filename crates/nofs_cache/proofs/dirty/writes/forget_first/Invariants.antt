use Rattle.std.proofs.Common.{◌≡◌, ◌+◌, length}
use Rattle.nofs_cache.specs.Dirty.Blocks.{entries_of, order_of}
use Rattle.nofs_cache.specs.Dirty.Entries.{AreAmong, AreLeft}
use Rattle.nofs_cache.specs.Cached.{KeepsOrder}
use Rattle.nofs_cache.proofs.dirty.writes.forget_first.Given as goal

abbrev pub invariant-loop-place : goal.invariant-loop-place
invariant-loop-place l =
    AreLeft (entries_of l.dirty) (order_of l.initial.dirty) l.place
    × AreAmong (entries_of l.dirty) (entries_of l.initial.dirty)
    × (length (entries_of l.dirty) + l.place ≡ length (entries_of l.initial.dirty))
    × KeepsOrder l.initial.dirty l.dirty
