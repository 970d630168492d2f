use Rattle.std.proofs.Common.{◌∙◌, ◌-◌, ap, arith, length}
use Rattle.std.proofs.lemmas.List.{length-take-le}
use Rattle.std.proofs.lemmas.List.Sorted.{length_permutation}
use Rattle.nofs_cache.specs.Dirty.Blocks.{entries_of, order_of}
use Rattle.nofs_cache.proofs.OnDirty.{front_among, left_here, left_next, left_reordered, own_slotted}
use Rattle.nofs_cache.proofs.dirty.writes.forget_next.Goals as goal

pub returns-clause-left : goal.returns-clause-left
returns-clause-left c =
    let mid = c.bring_last.new.self in
    let order = order_of c.args.dirty.now in
    let dirty = left_here (entries_of c.args.dirty.now) order c.args.place c.in_order-block.result c.requires.place
    c.in_order-block.ensures c.requires.left in
    let left = left_reordered _ _ order c.args.place c.bring_last.ensures.same c.requires.left in
    rw (c.pop.ensures.order, c.bring_last.ensures.order)
    (left_next (entries_of mid) _ order c.args.place c.in_order-block.result
    (own_slotted mid.slots.items (entries_of mid) mid.placed) c.requires.rises c.requires.place
    c.in_order-block.ensures (c.bring_last.ensures.last dirty) left c.pop.ensures.entries)

pub returns-clause-among : goal.returns-clause-among
returns-clause-among c =
    front_among (entries_of c.args.dirty.now) (entries_of c.bring_last.new.self) _ c.bring_last.ensures.same
    c.pop.ensures.entries

pub returns-clause-fewer : goal.returns-clause-fewer
returns-clause-fewer c =
    let order = order_of c.args.dirty.now in
    let dirty = left_here (entries_of c.args.dirty.now) order c.args.place c.in_order-block.result c.requires.place
    c.in_order-block.ensures c.requires.left in
    let some = (c.bring_last.ensures.last dirty).some in
    let same = length_permutation _ _ c.bring_last.ensures.same in
    let mid = entries_of c.bring_last.new.self in
    let cut = ap length c.pop.ensures.entries ∙ length-take-le (length mid - 1) mid (omega arith) in
    omega arith
