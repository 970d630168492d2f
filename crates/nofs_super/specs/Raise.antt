-- What a raised mount number leaves on a device.
use Rattle.std.specs.Prelude.{◌≡◌, ◌≢◌, ℕ, ◌+◌, ◌<◌, ◌≤◌, ◌⊎◌, [], Contains, slice_set}
use Rattle.nofs_disk.specs.Disk.{DiskState, IsSettled, Rose}
use Rattle.nofs_disk.specs.declared.tag.Cell.{Cell}
use Rattle.nofs_super.specs.Format.{super_cell}
use Rattle.nofs_super.specs.declared.superblock.SuperBlock.{SuperBlock}

-- a superblock with its mount number one higher
abbrev pub raised : SuperBlock → SuperBlock
raised it = record it { mount = it.mount + 1 }

-- the cell of this superblock in block 0
pub record IsSuperCell (it : SuperBlock) (block : ℕ) (c : Cell) : Type 0 where
  pub first : block ≡ 0
  pub is : c ≡ super_cell it

-- block 0 holds this superblock after one write and one flush, and nothing else is possible
pub record IsRaised (it : SuperBlock) (old new : DiskState) : Type 0 where
  pub now : new.now ≡ slice_set old.now 0 (super_cell it)
  pub settled : IsSettled new
  pub was : new.was new.moment ≡ new.now
  pub clean : new.dirty ≡ []
  pub moment : new.moment ≡ old.moment + 4
  pub spare : new.spare + 2 ≡ old.spare
  pub no_fault : new.faults ≡ old.faults

-- the write or the flush failed: block 0 holds its old cell or this superblock
pub record IsRaiseStopped (it : SuperBlock) (old new : DiskState) : Type 0 where
  -- the device failed a call
  pub cause : Rose old.faults new.faults
  -- and not before the write began, nor after the flush
  pub began : old.moment < new.moment
  pub most : new.moment ≤ old.moment + 4
  -- a read gives what it gave before, or this superblock in block 0
  pub now : (new.now ≡ old.now) ⊎ (new.now ≡ slice_set old.now 0 (super_cell it))
  -- so it is with a crash: it may leave what it might before, and in block 0 this superblock, but nothing else
  pub kept : (block : ℕ) (c : Cell) → Contains (old.may block) c → Contains (new.may block) c
  pub others : (block : ℕ) → block ≢ 0 → new.may block ≡ old.may block
  pub first : (c : Cell) → Contains (new.may 0) c → Contains (old.may 0) c ⊎ (c ≡ super_cell it)
