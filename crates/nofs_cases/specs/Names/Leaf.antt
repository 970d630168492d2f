-- An instance of the law of Make in a hole under a leaf, which is claimed with the cell.
use Rattle.std.specs.Prelude.{◌+◌, ◌^◌, ◌∷◌, ◌++◌}
use Rattle.nofs_inode.specs.declared.inode.FileKind.TheVariants.{File}
use Rattle.nofs_disk.specs.declared.tag.Cell.{Cell}
use Rattle.nofs_disk.specs.declared.tag.Pointer.{Pointer}
use Rattle.nofs_disk.specs.Pointer.{null}
use Rattle.nofs_dirent.specs.Entries.{spelled_entry}
use Rattle.nofs_model.specs.Geometry.{Image}
use Rattle.nofs_model.specs.declared.image.value.Value.TheVariants.{Hole}
use Rattle.nofs_history.specs.declared.machine.history.Claims.{Claims}
use Rattle.nofs_crashlaw.specs.Names.NewEntries.{MakeLies, EntryInHole}
use Rattle.nofs_crashlaw.specs.Machine.Examples.{a}
use Rattle.nofs_cases.specs.Disks.Images.{z, image_of, first_image, label_bytes, pointer_bytes, stamp_bytes, table_of}
use Rattle.nofs_cases.specs.Disks.Worlds.{root_file, first_files, block_two}
use Rattle.nofs_cases.specs.Steps.Leaf.{block_three, leaf_of}
use Rattle.nofs_cases.specs.Names.Disks.{short_entry_bytes, file_bytes, link_bytes}

-- the leaf of the root is block 3, and inode 3 has its name in entry 128
abbrev pub deep_table : Cell
deep_table = table_of (1 ∷ z 7 ++ 2 ∷ z 3 ++ z 84 ++ z 128 ++ pointer_bytes 3 2 ++ z 16) (label_bytes (z 8) (z 16))
    (file_bytes 1 (link_bytes 128) (z 16))
    (z 256)

-- the block of slot 8, in which the name a stands first
abbrev pub deep_entries : Cell
deep_entries =
    record { payload = short_entry_bytes 97 ++ z 960; tag = 2 ∷ z 3 ++ 1 ∷ z 3 ++ 1 ∷ z 7 ++ 8 ∷ z 7 ++ stamp_bytes 1 }

-- the leaf, whose first pointer leads there
abbrev pub root_leaf : Cell
root_leaf = leaf_of 1 1 2

abbrev pub deep_image : Image
deep_image = image_of deep_table deep_entries root_leaf

-- block 3, with the stamp 2 ^ 40 + 2
abbrev pub leaf_pointer : Pointer
leaf_pointer = record block_three { stamp = 2 ^ 40 + 2 }

-- inode 3 and both blocks are claimed
abbrev pub deep_claims : Claims
deep_claims = record { inode = 3; generation = 2 ^ 40; cell = block_two 1; leaf = leaf_pointer; top = null }

-- Make of a, in entry 128 of the root.
abbrev pub DeepMakeCase : Type 0
DeepMakeCase = MakeLies first_files first_image deep_image 1 1 128 (2 ^ 40) a File deep_claims (root_file Hole)
    × EntryInHole (2 ^ 40) first_image deep_image 1 128 3 (spelled_entry 3 (2 ^ 40) a) (block_two 1) leaf_pointer
