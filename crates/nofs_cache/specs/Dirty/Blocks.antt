-- What contracts see of the dirty blocks.
use Rattle.std.specs.Prelude.{ℕ, ◌^◌, List, min, vec_capacity}
use Rattle.nofs_cache.specs.declared.dirty.cells.DirtyBlocks.{DirtyBlocks}
use Rattle.nofs_cache.specs.declared.dirty.cells.DirtyEntry.{DirtyEntry}

-- the dirty blocks with their cells
abbrev pub entries_of : DirtyBlocks → List DirtyEntry
entries_of d = d.entries.items

-- the blocks in the order in which a flush writes them
abbrev pub order_of : DirtyBlocks → List ℕ
order_of d = d.order.items

-- how many blocks the disk has
abbrev pub block_count : DirtyBlocks → ℕ
block_count d = d.blocks

-- for how many entries there is room, and for their blocks in order: a slot of 32 bits names each
abbrev pub room_of : DirtyBlocks → ℕ
room_of d = min (min (vec_capacity d.entries) (vec_capacity d.order)) (2 ^ 32)
