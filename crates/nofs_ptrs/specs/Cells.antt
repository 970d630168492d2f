-- Cells of pointers: a leaf, a top and a child hold 64 pointers each.
use Rattle.std.specs.Prelude.{ℕ, ◌*◌, List}
use Rattle.nofs_disk.specs.declared.tag.Pointer.{Pointer}
use Rattle.nofs_disk.specs.Pointer.{pointer_in}

-- pointer j of a leaf, a top or a child
unfoldable pub pointer_at : List ℕ → ℕ → Pointer
pointer_at payload j = pointer_in (16 * j) payload
