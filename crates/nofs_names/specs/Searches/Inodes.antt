-- An inode with its record.
use Rattle.std.specs.Prelude.{ℕ, if◌then◌else◌}
use Rattle.nofs_disk.specs.Disk.{DiskState}
use Rattle.nofs_disk.specs.Pointer.{is_null}
use Rattle.nofs_inode.specs.declared.inode.Record.{Record}
use Rattle.nofs_agree.specs.Reads.{KnowsDirectory, KnowsInode}
use Rattle.nofs_names.specs.declared.searches.inodes.ReadInode.{ReadInode}

-- the record was read
abbrev pub Knows : DiskState → ReadInode → Type 0
Knows d it = KnowsInode d it.at it.inode it.record

-- and is a directory's
abbrev pub KnowsFolder : DiskState → ReadInode → Type 0
KnowsFolder d it = KnowsDirectory d it.at it.inode it.record.generation it.record

-- the slot from which on all are holes: those in the block of a leaf, where there is none
abbrev pub slot_end : Record → ℕ
slot_end r = if is_null r.leaf then 8 else 72
