-- An image, its numbers, and the records of its inode table. An image is a list of cells, one a block.
use Rattle.std.specs.Prelude.{◌≡◌, ◌↔◌, ℕ, ◌+◌, ◌-◌, ◌/◌, ◌%◌, ◌<◌, Bool, true, ◌&&◌, List, length, if◌then◌else◌}
use Rattle.std.specs.Prelude.{nat_lt, nat_le, ◌==◌}
use Rattle.nofs_disk.specs.Disk.{cell_at}
use Rattle.nofs_disk.specs.Disk.{IsSizedCell}
use Rattle.nofs_super.specs.Super.{super_in, is_super}
use Rattle.nofs_super.specs.Geometry.{is_geometry}
use Rattle.nofs_super.specs.Geometry.{IsGeometry}
use Rattle.nofs_disk.specs.declared.tag.Cell.{Cell}
use Rattle.nofs_inode.specs.declared.inode.Record.{Record}
use Rattle.nofs_super.specs.declared.superblock.SuperBlock.{SuperBlock}
use Rattle.nofs_inode.specs.InodeRecords.{free_record, record_at}

abbrev pub Image : Type 0
Image = List Cell

-- each cell of a block has 1,024 bytes and a tag of 32
abbrev pub IsSized : Image → Type 0
IsSized X = (b : ℕ) → b < length X → IsSizedCell (cell_at X b)

-- the numbers of block 0
unfoldable pub super_at : Image → SuperBlock
super_at X = super_in (cell_at X 0).payload

-- block 0 spells a superblock whose numbers format would accept on a device of as many blocks
abbrev pub is_mountable : Image → Bool
is_mountable X = is_super (cell_at X 0).payload && is_geometry (length X) (super_at X).blocks (super_at X).inodes

-- the same as a fact: block 0 spells a superblock, and its numbers are a geometry
pub record IsMountable (X : Image) : Type 0 where
  pub spelled : is_super (cell_at X 0).payload ≡ true
  pub fits : IsGeometry (length X) (super_at X).blocks (super_at X).inodes

-- its numbers
abbrev pub version_of : Image → ℕ
version_of X = (super_at X).version

abbrev pub blocks_of : Image → ℕ
blocks_of X = (super_at X).blocks

abbrev pub inodes_of : Image → ℕ
inodes_of X = (super_at X).inodes

abbrev pub mount_of : Image → ℕ
mount_of X = (super_at X).mount

-- that the test is the fact
abbrev pub LawMountable : Type 0
LawMountable = (X : Image) → IsMountable X ↔ (is_mountable X ≡ true)

-- the first block behind the inode table
abbrev pub first_data : Image → ℕ
first_data X = 1 + (super_at X).inodes / 4

-- the data area: the blocks from there to the last
abbrev pub is_data_block : Image → ℕ → Bool
is_data_block X p = nat_le (first_data X) p && nat_lt p (super_at X).blocks

-- inodes are counted from 1
abbrev pub is_inode : Image → ℕ → Bool
is_inode X i = nat_le 1 i && nat_le i (super_at X).inodes

-- the record of inode i: free where its bytes spell none, and where there is no such inode
unfoldable pub inode : Image → ℕ → Record
inode X i = if is_inode X i then record_at (cell_at X (1 + (i - 1) / 4)).payload ((i - 1) % 4) else free_record

-- whether the records of two inodes stand in one cell of the inode table
abbrev pub in_one_table_cell : ℕ → ℕ → Bool
in_one_table_cell i j = (i - 1) / 4 == (j - 1) / 4
