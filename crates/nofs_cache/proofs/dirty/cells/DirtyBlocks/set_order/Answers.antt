use Rattle.std.proofs.Common.{List, ap, map, subst, ◌∙◌, ℕ}
use Rattle.std.specs.Prelude.{IsPermutation}
use Rattle.std.proofs.lemmas.List.Sorted.{IsNonDecreasingBy-from_sort}
use Rattle.nofs_cache.specs.Dirty.Blocks.{entries_of}
use Rattle.nofs_cache.proofs.OnDirty.{order_sorted, own_slotted}
use Rattle.nofs_cache.proofs.dirty.cells.DirtyBlocks.set_order.Goals as goal

pub returns-clause-order : goal.returns-clause-order
returns-clause-order c =
    let old = c.args.self.now in
    let order = c.sort_unstable.new.self.items in
    let own = own_slotted old.slots.items (entries_of old) old.placed in
    let F : List ℕ → Type 0 = λ l. IsPermutation l order in
    order_sorted (entries_of old) order own
    (subst F (c.list_blocks.ensures.blocks ∙ ap (map (λ e. e.block)) c.as_slice.ensures.value)
    c.sort_unstable.ensures.permutation)
    (IsNonDecreasingBy-from_sort (λ x. x) order c.sort_unstable.ensures.sorted)
