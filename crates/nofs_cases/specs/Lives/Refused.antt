-- An image that no crash may leave: a slot with the bytes of another file.
use Rattle.std.specs.Prelude.{◌≡◌, ℕ, ◌+◌, ◌^◌, List, [], ◌∷◌, ◌++◌}
use Rattle.nofs_disk.specs.declared.tag.Cell.{Cell}
use Rattle.nofs_disk.specs.declared.tag.Pointer.{Pointer}
use Rattle.nofs_model.specs.Geometry.{Image}
use Rattle.nofs_model.specs.Slots.{value}
use Rattle.nofs_model.specs.declared.image.value.Value.TheVariants.{Bytes}
use Rattle.nofs_history.specs.Allowed.{IsAllowed}
use Rattle.nofs_cases.specs.Disks.Images.{z, image_of, root_bytes, label_bytes, pointer_bytes, stamp_bytes, table_of}
use Rattle.nofs_cases.specs.Names.Disks.{short_entry_bytes, link_bytes, file_bytes, root_block}

-- the root has block 2, with the entry of inode 3; the label file has block 3 and a size of one byte
abbrev pub two_table : Cell
two_table = table_of (root_bytes (pointer_bytes 2 1)) (label_bytes (1 ∷ z 7) (pointer_bytes 3 2))
    (file_bytes 1 (link_bytes 0) (z 16)) (z 256)

abbrev pub label_pointer : Pointer
label_pointer = record { block = 3; stamp = 2 ^ 40 + 2 }

-- the block of slot 0 of the label file, with this content
abbrev pub label_cell : List ℕ → Cell
label_cell bytes = record { payload = bytes; tag = 1 ∷ z 3 ++ 2 ∷ z 3 ++ 2 ∷ z 7 ++ z 8 ++ stamp_bytes 2 }

abbrev pub two_with : List ℕ → Image
two_with bytes = image_of two_table (root_block (short_entry_bytes 97 ++ z 960)) (label_cell bytes)

-- the label file has the byte 7 in slot 0
abbrev pub two_image : Image
two_image = two_with (7 ∷ z 1023)

-- every tag and every pointer is as before, but there stand the bytes of the root directory
abbrev pub leaked_image : Image
leaked_image = two_with (short_entry_bytes 97 ++ z 960)

-- Before any step, at each moment: the disk itself may be left, and the one with the other file's bytes may not.
abbrev pub RefusedCase : Type 0
RefusedCase = (m : ℕ) → (value two_image 2 0 ≡ Bytes (7 ∷ z 1023)) × (value leaked_image 2 0 ≡ value two_image 1 0)
    × IsAllowed two_image [] m two_image × (IsAllowed two_image [] m leaked_image → ⊥)
