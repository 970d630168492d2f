-- Disks with names: the root has block 2, in which the entries of inode 3 stand.
use Rattle.std.specs.Prelude.{◌^◌, ℕ, List, [], ◌∷◌, ◌++◌, Some, None}
use Rattle.nofs_inode.specs.declared.inode.FileKind.TheVariants.{File}
use Rattle.nofs_disk.specs.declared.tag.Cell.{Cell}
use Rattle.nofs_inode.specs.declared.inode.BackLink.{BackLink}
use Rattle.nofs_inode.specs.InodeRecords.{no_link}
use Rattle.nofs_model.specs.Geometry.{Image}
use Rattle.nofs_model.specs.Files.{Absent, FileState, Files}
use Rattle.nofs_model.specs.declared.image.value.Value.TheVariants.{Hole, Bytes}
use Rattle.nofs_history.specs.Machine.{link_to}
use Rattle.nofs_history.specs.World.{World}
use Rattle.nofs_cases.specs.Disks.Images.{z, blank, image_of, table_of, root_bytes, label_bytes, pointer_bytes}
use Rattle.nofs_cases.specs.Disks.Images.{stamp_bytes}
use Rattle.nofs_cases.specs.Disks.Worlds.{root_file, label_file, three_files, world}
use Rattle.nofs_crashlaw.specs.Machine.Worlds.{first_slot}

-- a back link to entry e of the root
abbrev pub link_bytes : ℕ → List ℕ
link_bytes e = 1 ∷ z 3 ++ e ∷ z 3 ++ 1 ∷ z 7

-- the record of a file of generation 2 ^ 40 with so many back links
abbrev pub file_bytes : ℕ → List ℕ → List ℕ → List ℕ
file_bytes count first second = z 5 ++ 1 ∷ z 2 ++ 1 ∷ z 3 ++ count ∷ z 3 ++ z 16 ++ first ++ second ++ z 32 ++ z 160

-- the entry of inode 3 with a name of one letter
abbrev pub short_entry_bytes : ℕ → List ℕ
short_entry_bytes letter = 3 ∷ z 3 ++ 1 ∷ z 3 ++ z 5 ++ 1 ∷ z 2 ++ letter ∷ z 47

-- a table in which the root has block 2
abbrev pub root_table : List ℕ → Cell
root_table third = table_of (root_bytes (pointer_bytes 2 1)) (label_bytes (z 8) (z 16)) third (z 256)

-- the block of slot 0 of the root
abbrev pub root_block : List ℕ → Cell
root_block bytes = record { payload = bytes; tag = 2 ∷ z 3 ++ 1 ∷ z 3 ++ 1 ∷ z 7 ++ z 8 ++ stamp_bytes 1 }

-- inode 3 has the name a, in entry 0
abbrev pub name_table : Cell
name_table = root_table (file_bytes 1 (link_bytes 0) (z 16))

abbrev pub name_image : Image
name_image = image_of name_table (root_block (short_entry_bytes 97 ++ z 960)) blank

-- it has the name b there
abbrev pub rename_image : Image
rename_image = image_of name_table (root_block (short_entry_bytes 98 ++ z 960)) blank

-- it has the names a and b
abbrev pub link_table : Cell
link_table = root_table (file_bytes 2 (link_bytes 0) (link_bytes 1))

abbrev pub link_image : Image
link_image = image_of link_table (root_block (short_entry_bytes 97 ++ short_entry_bytes 98 ++ z 896)) blank

-- it is gone
abbrev pub drop_table : Cell
drop_table = root_table (z 256)

abbrev pub drop_image : Image
drop_image = image_of drop_table (root_block (z 1024)) blank

-- Files

-- the file of inode 3
abbrev pub third_file : List BackLink → FileState
third_file links = record {
  generation = 2 ^ 40;
  kind = File;
  size = 0;
  links = links;
  values = first_slot Hole;
  nodes = λ path. Absent;
}

-- its back links: to entry 0 of the root, and to entry 1 too
abbrev pub one_link : List BackLink
one_link = link_to 1 0 1 ∷ no_link ∷ no_link ∷ no_link ∷ []

abbrev pub two_links : List BackLink
two_links = link_to 1 0 1 ∷ link_to 1 1 1 ∷ no_link ∷ no_link ∷ []

-- a root with this directory cell
abbrev pub files_with : List ℕ → List BackLink → Files
files_with bytes links = three_files (root_file (Bytes bytes)) (label_file 0 Hole) (Some (third_file links))

abbrev pub name_files : Files
name_files = files_with (short_entry_bytes 97 ++ z 960) one_link

abbrev pub link_files : Files
link_files = files_with (short_entry_bytes 97 ++ short_entry_bytes 98 ++ z 896) two_links

-- a world on the disk with one name
abbrev pub name_world : World
name_world = world name_files (λ p. None) 2
