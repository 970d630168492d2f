-- Instances of the laws of steps on names.
use Rattle.std.specs.Prelude.{◌≡◌, ℕ, ◌+◌, ◌^◌, ◌<◌, List, ◌++◌, length, None, IfSome}
use Rattle.nofs_inode.specs.declared.inode.FileKind.TheVariants.{File}
use Rattle.nofs_dirent.specs.declared.entry.Entry.{Entry}
use Rattle.nofs_disk.specs.Pointer.{null}
use Rattle.nofs_dirent.specs.Entries.{spelled_entry, entry_of, entry_in}
use Rattle.nofs_model.specs.Geometry.{inode}
use Rattle.nofs_ptrs.specs.Paths.{Path, IsSlot}
use Rattle.nofs_model.specs.Slots.{find}
use Rattle.nofs_model.specs.declared.image.path.PathAnswer.TheVariants as answer
use Rattle.nofs_model.specs.declared.image.value.Value.TheVariants.{Hole, Bytes}
use Rattle.nofs_history.specs.Meta.{Gone, Is}
use Rattle.nofs_history.specs.Machine.{drop_meta, link_to, without_link, rename_given, bytes_in, with_entry}
use Rattle.nofs_history.specs.Claims.{no_claims}
use Rattle.nofs_history.specs.declared.machine.history.Claims.{Claims}
use Rattle.nofs_history.specs.declared.machine.steps.Step.TheVariants as step
use Rattle.nofs_crashlaw.specs.Machine.Examples.{a, b}
use Rattle.nofs_crashlaw.specs.Maps.Fresh.{Numbered}
use Rattle.nofs_crashlaw.specs.Names.OldEntries.{RenameLies, DropLies, Relinked}
use Rattle.nofs_crashlaw.specs.Names.NewEntries.{LinkLies, MakeLies, EntryInPlace, EntryInHole}
use Rattle.nofs_crashlaw.specs.Homes.Names.{NameMoves}
use Rattle.nofs_cases.specs.Disks.Images.{z, first_image}
use Rattle.nofs_cases.specs.Disks.Worlds.{root_file, first_files, first_world, block_two}
use Rattle.nofs_cases.specs.Names.Disks.{short_entry_bytes, name_image, rename_image, link_image, drop_image}
use Rattle.nofs_cases.specs.Names.Disks.{third_file, one_link, two_links, name_files, link_files, name_world}

-- the entry of inode 3 with this name
abbrev pub entry_named : List ℕ → Entry
entry_named name = record { inode = 3; generation = 2 ^ 40; name = name }

-- inode 3 and block 2 are claimed
abbrev pub make_claims : Claims
make_claims = record { inode = 3; generation = 2 ^ 40; cell = block_two 1; leaf = null; top = null }

-- Make of a, in the empty slot 0 of the root.
abbrev pub MakeCase : Type 0
MakeCase = MakeLies first_files first_image name_image 1 1 0 (2 ^ 40) a File make_claims (root_file Hole)
    × EntryInHole (2 ^ 40) first_image name_image 1 0 3 (spelled_entry 3 (2 ^ 40) a) (block_two 1) null

-- The new inode has no blocks.
abbrev pub BareCase : Type 0
BareCase = (p : Path) → IsSlot p → find name_image 3 p ≡ answer.Hole

-- Rename of a to b.
abbrev pub RenameCase : Type 0
RenameCase = RenameLies name_files name_image rename_image 1 1 0 (2 ^ 40 + 2) b
    (root_file (Bytes (short_entry_bytes 97 ++ z 960))) (block_two 1)
    (entry_named a)

-- and where its blocks have their homes
abbrev pub NameHomesCase : Type 0
NameHomesCase = NameMoves name_world (step.Rename 1 1 a b) no_claims (rename_given name_files 1 1 b 0)
    (2 ^ 40 + 2) 1 1 name_image rename_image

-- Link of b to inode 3, in entry 1, which stands in the block of a.
abbrev pub LinkCase : Type 0
LinkCase = LinkLies name_files name_image link_image 1 1 1 3 (2 ^ 40) 1 (2 ^ 40 + 2) b
    (root_file (Bytes (short_entry_bytes 97 ++ z 960))) (third_file one_link)
    × EntryInPlace name_image link_image 1 1 3 (spelled_entry 3 (2 ^ 40) b) (block_two 1)

-- Drop of b, where the file has another name.
abbrev pub DropNameCase : Type 0
DropNameCase = DropLies link_files link_image name_image 1 1 1 (2 ^ 40 + 2)
    (root_file (Bytes (short_entry_bytes 97 ++ short_entry_bytes 98 ++ z 896)))
    (third_file two_links) (block_two 1) (entry_named b)
    × (drop_meta link_files 3 (link_to 1 1 1) ≡ Is File 0 (without_link (link_to 1 1 1) two_links))
    × Relinked link_image name_image 3
    (without_link (link_to 1 1 1) two_links)

-- Drop of a, where it has none.
abbrev pub DropFileCase : Type 0
DropFileCase = DropLies name_files name_image drop_image 1 1 0 (2 ^ 40 + 2)
    (root_file (Bytes (short_entry_bytes 97 ++ z 960))) (third_file one_link)
    (block_two 1) (entry_named a)
    × (drop_meta name_files 3 (link_to 1 0 1) ≡ Gone) × ((inode drop_image 3).kind ≡ None)

-- The first entry of a directory's cell, and the number in it.
abbrev pub EntriesCase : Type 0
EntriesCase = (length (bytes_in Hole) ≡ 1024) × (length (spelled_entry 3 (2 ^ 40) a) ≡ 64) ×
    (with_entry Hole 0 (spelled_entry 3 (2 ^ 40) a) ≡ Bytes (short_entry_bytes 97 ++ z 960))
    × IfSome (entry_of (spelled_entry 3 (2 ^ 40) a)) (λ n. Numbered first_world make_claims n.generation)
    × ((j : ℕ) → j < 16 → IfSome (entry_in (bytes_in Hole) j) (λ n. Numbered first_world make_claims n.generation))
