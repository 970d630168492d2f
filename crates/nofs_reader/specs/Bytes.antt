-- The bytes of an image's cells are bytes.
use Rattle.std.specs.Prelude.{ℕ, ◌<◌, List, slice_index}
use Rattle.nofs_pages.specs.Laws.{all_bytes-byte, byte_in-byte, twin_byte-byte}
use Rattle.nofs_pages.specs.Singles.{byte_in}
use Rattle.nofs_pages.specs.Twins.{twin_byte}
use Rattle.nofs_reader.specs.Layouts.{bytes_by, cell_bytes, layout_of}
use Rattle.nofs_reader.specs.declared.layout.Layout.{Layout}
use Rattle.nofs_reader.specs.declared.layout.Layout.TheVariants.{Packed, Paged, Twin}

by-byte : (layout : Layout) (bytes : List ℕ) → ((k : ℕ) → slice_index bytes k < 256)
    → (k : ℕ) → slice_index (bytes_by layout bytes) k < 256
by-byte Packed bytes small k = small k
by-byte Paged bytes small k = all_bytes-byte (byte_in bytes) (byte_in-byte bytes small) k
by-byte Twin bytes small k = all_bytes-byte (twin_byte bytes) (twin_byte-byte bytes small) k

pub cell_bytes-byte : (bytes : List ℕ) → ((k : ℕ) → slice_index bytes k < 256)
    → (k : ℕ) → slice_index (cell_bytes bytes) k < 256
unfolding cell_bytes
cell_bytes-byte bytes small k = by-byte (layout_of bytes) bytes small k
