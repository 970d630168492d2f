use Rattle.nofs_cache.specs.Dirty.Blocks.{block_count, entries_of, order_of}
use Rattle.nofs_cache.proofs.OnDirty.{ordered, ordered_low}
use Rattle.nofs_cache.proofs.OnCached.Calls.{clean_not_dirty}
use Rattle.nofs_cache.proofs.dirty.writes.write_dirty.Goals as goal

pub get-requires : goal.get-requires
get-requires g c =
    let d = c.args.dirty.now in
    rw c.in_order-block.ensures
    (ordered_low d.slots.items (entries_of d) (order_of d) c.args.place (block_count d) d.placed d.within
    c.requires.order c.requires.place)

pub unreachable-requires : goal.unreachable-requires
unreachable-requires g c =
    let d = c.args.dirty.now in
    absurd (clean_not_dirty (entries_of d) c.in_order-block.result c.in-None.ensures.none
    (rw c.in_order-block.ensures (ordered (entries_of d) (order_of d) c.args.place c.requires.order c.requires.place)))
