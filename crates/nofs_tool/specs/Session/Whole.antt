-- The premises of what is promised of a disk, and what the machine says of it at the end of a session in which no call
-- failed.
use Rattle.std.specs.Prelude.{◌≡◌, ℕ, ◌<◌, ◌≤◌, true, false, slice_set}
use Rattle.nofs_disk.specs.Disk.{DiskState}
use Rattle.nofs_super.specs.Format.{super_cell}
use Rattle.nofs_super.specs.Raise.{raised}
use Rattle.nofs_super.specs.declared.superblock.SuperBlock.{SuperBlock}
use Rattle.nofs_model.specs.Geometry.{Image, super_at}
use Rattle.nofs_model.specs.Owners.{is_used_block, is_used_inode}
use Rattle.nofs_history.specs.HistoryState.{HistoryState}
use Rattle.nofs_history.specs.World.{World, uses_block, uses_inode, world_of}
use Rattle.nofs_shared.specs.Mount.End.{Ends}
use Rattle.nofs_shared.specs.Mount.Invariant.{IsSoundDisk}
use Rattle.nofs_history.specs.Faults.{has_fault}

-- The premises, by the disk that the mount found: it tells what it holds and keeps the model of a device, and each
-- image that it may leave as the mount begins is one that this file system made. A format leaves such a disk, a run
-- keeps it, and so does a crash
abbrev pub IsMet : DiskState → Type 0
IsMet found = IsSoundDisk found

-- the world as the mount found it: the disk with its mount number raised
abbrev pub found_world : DiskState → World
found_world found = world_of (slice_set found.now 0 (super_cell (raised (super_at found.now)))) 0

-- the machine has these numbers, and says of each inode and each block what the full scan of the disk says
pub record ShowsDisk (at : SuperBlock) (W : World) (X : Image) : Type 0 where
  pub numbers : super_at X ≡ at
  pub inodes : W.inodes ≡ at.inodes
  pub blocks : W.blocks ≡ at.blocks
  pub used_inodes : (i : ℕ) → uses_inode W i ≡ is_used_inode X i
  pub used_blocks : (p : ℕ) → p < at.blocks → uses_block W p ≡ is_used_block X p

-- What a mount gives at its end, and its world where no call of the device failed
pub record Finished (found last : DiskState) (first : ℕ) (h : HistoryState) : Type 0 where
  pub ends : Ends found last first h
  pub shows : (q : IsMet found)
      → has_fault h.entries ≡ false → ShowsDisk (raised (super_at found.now)) (ends.contents q).world last.now

-- every inode and every block is known, and the verdict of each is that of the full scan of the disk
pub record IsWholeScan (W : World) (X : Image) : Type 0 where
  pub known_inodes : (i : ℕ) → 1 ≤ i → i ≤ (super_at X).inodes → W.known_inodes i ≡ true
  pub known_blocks : (p : ℕ) → p < (super_at X).blocks → W.known_blocks p ≡ true
  pub used_inodes : (i : ℕ) → 1 ≤ i → i ≤ (super_at X).inodes → uses_inode W i ≡ is_used_inode X i
  pub used_blocks : (p : ℕ) → p < (super_at X).blocks → uses_block W p ≡ is_used_block X p
