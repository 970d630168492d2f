use Rattle.std.proofs.Common.{◌≡◌, ◌≤◌, take, map}
use Rattle.std.specs.Prelude.{vec_capacity}
use Rattle.nofs_cache.proofs.dirty.cells.list_blocks.Given as goal

abbrev pub invariant-loop-entry : goal.invariant-loop-entry
invariant-loop-entry l =
    (l.order.items ≡ map (λ e. e.block) (take l.entry-index l.entries))
    × (vec_capacity l.initial.order ≤ vec_capacity l.order)
