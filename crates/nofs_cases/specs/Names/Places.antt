-- Instances of the laws of new entries where the others have none: a Make in place, and a Link in a hole, each with all
-- the premises of the laws of its homes and of its numbers.
use Rattle.std.specs.Prelude.{◌≡◌, ℕ, zero, suc, ◌+◌, ◌^◌, List, [], ◌∷◌, ◌++◌, Some, None}
use Rattle.nofs_inode.specs.declared.inode.FileKind.TheVariants.{File}
use Rattle.nofs_disk.specs.declared.tag.Cell.{Cell}
use Rattle.nofs_inode.specs.declared.inode.BackLink.{BackLink}
use Rattle.nofs_disk.specs.declared.tag.Pointer.{Pointer}
use Rattle.nofs_inode.specs.InodeRecords.{no_link}
use Rattle.nofs_disk.specs.Pointer.{null}
use Rattle.nofs_dirent.specs.Entries.{spelled_entry}
use Rattle.nofs_model.specs.Geometry.{Image}
use Rattle.nofs_model.specs.Files.{Files}
use Rattle.nofs_model.specs.declared.image.value.Value.TheVariants.{Hole, Bytes}
use Rattle.nofs_history.specs.Machine.{link_to, place_for}
use Rattle.nofs_history.specs.World.{World}
use Rattle.nofs_history.specs.Claims.{IsClaim}
use Rattle.nofs_history.specs.declared.machine.history.Claims.{Claims}
use Rattle.nofs_history.specs.declared.machine.steps.Step.TheVariants as step
use Rattle.nofs_crashlaw.specs.Names.NewEntries.{LinkLies, MakeLies, EntryInPlace, EntryInHole}
use Rattle.nofs_crashlaw.specs.Homes.Entries.{EntryClaims}
use Rattle.nofs_crashlaw.specs.Numbers.Cells.{OldNumbers}
use Rattle.nofs_crashlaw.specs.Machine.Examples.{a, b}
use Rattle.nofs_cases.specs.Disks.Images.{z, blank, image_of, label_bytes, pointer_bytes, stamp_bytes, table_of}
use Rattle.nofs_cases.specs.Disks.Worlds.{root_file, label_file, three_files, world, block_two, cell_claim}
use Rattle.nofs_cases.specs.Names.Disks.{short_entry_bytes, link_bytes, file_bytes, root_table, root_block}
use Rattle.nofs_cases.specs.Names.Disks.{name_table, drop_image, third_file, one_link, files_with}

-- Make in place

-- the files of a disk whose root has one block, without an entry
abbrev pub drop_files : Files
drop_files = three_files (root_file (Bytes (z 1024))) (label_file 0 Hole) None

abbrev pub drop_world : World
drop_world = world drop_files (λ p. None) 2

-- inode 3 is claimed, with the next generation
abbrev pub again_claims : Claims
again_claims = record { inode = 3; generation = 2 ^ 40 + 2; cell = null; leaf = null; top = null }

-- the entry a of inode 3 with that generation
abbrev pub again_bytes : List ℕ
again_bytes = 3 ∷ z 3 ++ 1 ∷ z 3 ++ stamp_bytes 2 ++ 97 ∷ z 47

-- inode 3 has it, and the name a
abbrev pub again_table : Cell
again_table = root_table (stamp_bytes 2 ++ 1 ∷ z 3 ++ 1 ∷ z 3 ++ z 16 ++ link_bytes 0 ++ z 16 ++ z 32 ++ z 160)

abbrev pub again_image : Image
again_image = image_of again_table (root_block (again_bytes ++ z 960)) blank

-- Make of a in entry 0, in the block that the root has.
abbrev pub MakeInPlaceCase : Type 0
MakeInPlaceCase =
    MakeLies drop_files drop_image again_image 1 1 0 (2 ^ 40 + 2) a File again_claims (root_file (Bytes (z 1024)))
    × EntryInPlace drop_image again_image 1 0 3 (spelled_entry 3 (2 ^ 40 + 2) a) (block_two 1)
    × (place_for drop_files 1 a ≡ Some 0) × IsClaim drop_world (step.Make 1 1 a File) again_claims
    × OldNumbers drop_world drop_image

-- Link in a hole

-- so many entries c of inode 3, none of which its record knows
abbrev pub dead_entries : ℕ → List ℕ
dead_entries zero = []
dead_entries (suc n) = short_entry_bytes 99 ++ dead_entries n

-- the entry a, and 15 dead ones: the cell has no place
abbrev pub full_cell : List ℕ
full_cell = short_entry_bytes 97 ++ dead_entries 15

abbrev pub full_image : Image
full_image = image_of name_table (root_block full_cell) blank

abbrev pub full_files : Files
full_files = files_with full_cell one_link

abbrev pub full_world : World
full_world = world full_files (λ p. None) 2

-- block 3, with the stamp 2 ^ 40 + 2, is claimed
abbrev pub third_block : Pointer
third_block = record { block = 3; stamp = 2 ^ 40 + 2 }

abbrev pub hole_claims : Claims
hole_claims = cell_claim third_block

-- the root has it in slot 1, and inode 3 has a second link, to entry 16
abbrev pub hole_table : Cell
hole_table =
    table_of (1 ∷ z 7 ++ 2 ∷ z 3 ++ z 84 ++ pointer_bytes 2 1 ++ pointer_bytes 3 2 ++ z 128) (label_bytes (z 8) (z 16))
    (file_bytes 2 (link_bytes 0) (link_bytes 16)) (z 256)

-- the block of slot 1 of the root, with the entry b
abbrev pub second_block : Cell
second_block =
    record { payload = short_entry_bytes 98 ++ z 960; tag = 2 ∷ z 3 ++ 1 ∷ z 3 ++ 1 ∷ z 7 ++ 1 ∷ z 7 ++ stamp_bytes 2 }

abbrev pub hole_image : Image
hole_image = image_of hole_table (root_block full_cell) second_block

abbrev pub far_links : List BackLink
far_links = link_to 1 0 1 ∷ link_to 1 16 1 ∷ no_link ∷ no_link ∷ []

-- Link of b to inode 3 in entry 16, for which slot 1 of the root gets its block.
abbrev pub LinkInHoleCase : Type 0
LinkInHoleCase = LinkLies full_files full_image hole_image 1 1 16 3 (2 ^ 40) 1 (2 ^ 40 + 2) b
    (root_file (Bytes full_cell)) (third_file one_link)
    × EntryInHole (2 ^ 40 + 2) full_image hole_image 1 16 3 (spelled_entry 3 (2 ^ 40) b) third_block null
    × EntryClaims full_files hole_claims 1 16 b third_block null
    × IsClaim full_world (step.Link 1 1 b 3 (2 ^ 40)) hole_claims
    × OldNumbers full_world full_image
