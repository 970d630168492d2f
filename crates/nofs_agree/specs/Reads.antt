-- What reads of blocks and records answer, over any disk.
use Rattle.std.specs.Prelude.{◌≡◌, ◌≤◌, ℕ, IsTrue, Some, Result, IfOk, IfSome, OnOk, OnErr}
use Rattle.nofs_disk.specs.declared.Failed.{Failed}
use Rattle.nofs_disk.specs.Disk.{DiskState, StaysButFaults, Rose, cell_at}
use Rattle.nofs_inode.specs.InodeRecords.{HasRecordSpelling, is_live}
use Rattle.nofs_inode.specs.declared.inode.FileKind.TheVariants.{Directory}
use Rattle.nofs_inode.specs.declared.inode.Record.{Record}
use Rattle.nofs_super.specs.declared.superblock.SuperBlock.{SuperBlock}
use Rattle.nofs_super.specs.Geometry.{IsGeometry}
use Rattle.nofs_model.specs.Geometry.{super_at, inode}
use Rattle.nofs_agree.specs.declared.reads.LastRead.{LastRead}

-- a format would accept the numbers on this disk, and where the disk tells, block 0 has them
pub record IsAt (d : DiskState) (at : SuperBlock) : Type 0 where
  pub geometry : IsGeometry d.blocks at.blocks at.inodes
  pub same : IsTrue d.tells → super_at d.now ≡ at

-- the cell that is kept is that of the block that was read last
abbrev pub IsLast : DiskState → LastRead → Type 0
IsLast d last = IsTrue d.tells → IfSome last.block (λ block. last.cell ≡ cell_at d.now block)

-- a block is read: its cell is kept
pub record ReadsBlock (old new : DiskState) (block : ℕ) (last : LastRead)
    (result : Result (Unit {0}) Failed) : Type 0 where
  pub stays : StaysButFaults old new
  pub cell : OnOk result (IsTrue old.tells → last.cell ≡ cell_at old.now block)
  pub kept : OnOk result (IsLast new last)
  pub cause : OnErr result (Rose old.faults new.faults)
  pub no_fault : OnOk result (new.faults ≡ old.faults)

-- the record is that of the inode. It has a spelling even where the disk doesn't tell
pub record KnowsInode (d : DiskState) (at : SuperBlock) (i : ℕ) (r : Record) : Type 0 where
  pub numbers : IsAt d at
  pub same : IsTrue d.tells → inode d.now i ≡ r
  pub spelled : HasRecordSpelling r
  -- a live one is in the table
  pub range : IsTrue (is_live r) → (1 ≤ i) × (i ≤ at.inodes)

-- the record of an inode is read
pub record ReadsInode (old new : DiskState) (at : SuperBlock) (i : ℕ) (last : LastRead)
    (result : Result Record Failed) : Type 0 where
  pub stays : StaysButFaults old new
  pub found : IfOk result (λ r. KnowsInode new at i r)
  pub kept : OnOk result (IsLast new last)
  pub cause : OnErr result (Rose old.faults new.faults)
  pub no_fault : OnOk result (new.faults ≡ old.faults)

-- the record is that of a live directory of this generation
pub record KnowsDirectory (d : DiskState) (at : SuperBlock) (i g : ℕ) (r : Record) : Type 0 where
  pub known : KnowsInode d at i r
  pub kind : r.kind ≡ Some Directory
  pub generation : r.generation ≡ g
