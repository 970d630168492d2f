-- Instances of the laws of the numbers in one written cell: content, a directory's cell, and a table.
use Rattle.std.specs.Prelude.{◌≡◌, ℕ, ◌+◌, ◌-◌, ◌/◌, ◌%◌, ◌^◌, true, ◌++◌, Some}
use Rattle.nofs_disk.specs.declared.tag.Kind.TheVariants.{Content, Directory}
use Rattle.nofs_inode.specs.InodeRecords.{record_at}
use Rattle.nofs_dirent.specs.Entries.{spelled_entry}
use Rattle.nofs_disk.specs.Tag.{tag_of}
use Rattle.nofs_ptrs.specs.Paths.{InRecord}
use Rattle.nofs_model.specs.Slots.{kind_in}
use Rattle.nofs_model.specs.Geometry.{is_inode, inode}
use Rattle.nofs_model.specs.declared.image.value.Value.TheVariants.{Hole, Bytes}
use Rattle.nofs_history.specs.Claims.{no_claims}
use Rattle.nofs_crashlaw.specs.Numbers.Cells.{OldNumbers, CellFor, EntryWritten, RecordWritten, table_tag}
use Rattle.nofs_crashlaw.specs.Machine.Examples.{a, b}
use Rattle.nofs_cases.specs.Disks.Images.{z, first_image, put_table, put_block}
use Rattle.nofs_cases.specs.Disks.Worlds.{first_world, block_two}
use Rattle.nofs_cases.specs.Steps.Files.{put_claims}
use Rattle.nofs_cases.specs.Names.Disks.{short_entry_bytes, root_block, name_table, name_image, name_world, drop_table}
use Rattle.nofs_cases.specs.Names.Steps.{make_claims}

-- The content cell of a Put, in a claimed block.
abbrev pub ContentCellCase : Type 0
ContentCellCase = OldNumbers first_world first_image
    × CellFor put_claims first_image 2 (InRecord 0) (block_two 0) (put_block 7)
    × (kind_in (inode first_image 2) (InRecord 0) ≡ Content)

-- The directory's cell of a Make in a hole: zeros before, and the new entry.
abbrev pub EntryInHoleCase : Type 0
EntryInHoleCase = OldNumbers first_world first_image
    × CellFor make_claims first_image 1 (InRecord 0) (block_two 1) (root_block (short_entry_bytes 97 ++ z 960))
    × (kind_in (inode first_image 1) (InRecord 0) ≡ Directory)
    × EntryWritten first_world make_claims first_image 1 (InRecord 0)
    (root_block (short_entry_bytes 97 ++ z 960)) Hole 0 (spelled_entry 3 (2 ^ 40) a)

-- The directory's cell of a Link in place: the entry a stays, and b is new.
abbrev pub EntryInPlaceCase : Type 0
EntryInPlaceCase = OldNumbers name_world name_image
    × CellFor no_claims name_image 1 (InRecord 0) (block_two 1)
    (root_block (short_entry_bytes 97 ++ short_entry_bytes 98 ++ z 896))
    × (kind_in (inode name_image 1) (InRecord 0) ≡ Directory)
    × EntryWritten name_world no_claims name_image 1 (InRecord 0)
    (root_block (short_entry_bytes 97 ++ short_entry_bytes 98 ++ z 896))
    (Bytes (short_entry_bytes 97 ++ z 960)) 1
    (spelled_entry 3 (2 ^ 40) b)

-- The table of a Put: the record of inode 2 is changed, and the others are as before.
abbrev pub TableChangedCase : Type 0
TableChangedCase = OldNumbers first_world first_image × (tag_of put_table.tag ≡ Some (table_tag 1))
    × ((j : ℕ) → is_inode first_image j ≡ true → 1 + (j - 1) / 4 ≡ 1
    → RecordWritten first_world put_claims first_image j (record_at put_table.payload ((j - 1) % 4)))

-- The table of a Make: inode 3 has its first record, and the root a new pointer.
abbrev pub TableMadeCase : Type 0
TableMadeCase = OldNumbers first_world first_image × (tag_of name_table.tag ≡ Some (table_tag 1))
    × ((j : ℕ) → is_inode first_image j ≡ true → 1 + (j - 1) / 4 ≡ 1
    → RecordWritten first_world make_claims first_image j (record_at name_table.payload ((j - 1) % 4)))

-- The table of a Drop: the record of inode 3 is free.
abbrev pub TableFreedCase : Type 0
TableFreedCase = OldNumbers name_world name_image × (tag_of drop_table.tag ≡ Some (table_tag 1))
    × ((j : ℕ) → is_inode name_image j ≡ true → 1 + (j - 1) / 4 ≡ 1
    → RecordWritten name_world no_claims name_image j (record_at drop_table.payload ((j - 1) % 4)))
