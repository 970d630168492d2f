-- What comes before the mount number is raised, what a mount is at its beginning, and why a disk is not mounted.
use Rattle.std.specs.Prelude.{◌≡◌, ◌≢◌, ℕ, ◌+◌, ◌<◌, ◌≤◌, ◌⊎◌, List, [], IsTrue, Some, Result, Ok, Err, IfOk, IfErr}
use Rattle.std.specs.Prelude.{Contains, slice_set}
use Rattle.nofs_disk.specs.Adds.{WasOr}
use Rattle.nofs_disk.specs.Disk.{DiskState, IsSameDisk, IsSettled, KeepsCells, KeepsPast, Rose, cell_at}
use Rattle.nofs_disk.specs.Number.{IsBytes}
use Rattle.nofs_super.specs.Format.{super_cell}
use Rattle.nofs_super.specs.Raise.{IsSuperCell, raised}
use Rattle.nofs_disk.specs.declared.tag.Cell.{Cell}
use Rattle.nofs_super.specs.declared.superblock.SuperBlock.{SuperBlock}
use Rattle.nofs_model.specs.Geometry.{Image}
use Rattle.nofs_super.specs.Super.{CanMount, check_super, super_of}
use Rattle.nofs_super.specs.declared.superblock.MountFault.{MountFault}
use Rattle.nofs_super.specs.declared.superblock.MountFault.TheVariants as fault
use Rattle.nofs_state.specs.Books.Maps.{IsRoom}
use Rattle.nofs_state.specs.Cores.Beginning.{HasBegun}
use Rattle.nofs_state.specs.Cores.Invariant.{Sounds}
use Rattle.nofs_state.specs.declared.books.maps.Books.{Books}
use Rattle.nofs_shared.specs.declared.mount.begin.Prepared.{Prepared}
use Rattle.nofs_shared.specs.Mount.Invariant.{IsFound, IsSoundDisk}

-- the superblock by which a disk is mounted: where the disk tells, block 0 spells it, and the table has no fault
pub record MountsBy (d : DiskState) (it : SuperBlock) : Type 0 where
  pub can : CanMount d.blocks it
  pub spelled : IsTrue d.tells → super_of (cell_at d.now 0).payload ≡ Some it
  pub table : IsTrue d.tells → check_super d.blocks (cell_at d.now 0).payload ≡ Ok it

-- the superblock that was read, with the memory for its mount and room for two calls
pub record IsPrepared (old new : DiskState) (it : Prepared) : Type 0 where
  pub mounts : MountsBy old it.old
  pub room : IsRoom it.old it.room
  pub spare : 2 ≤ new.spare

-- a fault that block 0 has: neither a read that failed nor want of memory
abbrev pub IsOfTable : MountFault → Type 0
IsOfTable why = (why ≢ fault.ReadFault) × (why ≢ fault.OutOfMemory)

-- why a disk is not mounted: by the table of its superblock, by a failed read, or for want of memory. Nothing was
-- written, nor written out
pub record IsMountRefused (old new : DiskState) (why : MountFault) : Type 0 where
  pub no_write : why ≢ fault.WriteFault
  pub dirty : new.dirty ≡ old.dirty
  pub empty : old.blocks ≡ 0 → why ≡ fault.DeviceTooSmall 0
  pub read : why ≡ fault.ReadFault → Rose old.faults new.faults
  pub table : why ≢ fault.ReadFault → why ≢ fault.OutOfMemory → 0 < old.blocks → IsTrue old.tells
      → Err why ≡ check_super old.blocks (cell_at old.now 0).payload
  -- over a device that does not tell, what was read has just this fault
  pub some : IsOfTable why
      → 0 < old.blocks → (payload : List ℕ) × IsBytes 1024 payload × (check_super old.blocks payload ≡ Err why)
  -- want of memory comes after the table
  pub memory : why ≡ fault.OutOfMemory → (it : SuperBlock) × MountsBy old it

pub record Prepares (old new : DiskState) (result : Result Prepared MountFault) : Type 0 where
  pub disk : IsSameDisk old new
  pub past : KeepsPast old new
  pub cells : KeepsCells old new
  pub ok : IfOk result (IsPrepared old new)
  pub err : IfErr result (IsMountRefused old new)

-- at each moment of the call a crash leaves what it might before, but in block 0 perhaps the raised superblock
abbrev pub LeavesRaised : DiskState → DiskState → SuperBlock → Type 0
LeavesRaised old new at = (m : ℕ) (X : Image) → old.moment ≤ m → m ≤ new.moment → new.left m X → IsFound at old X

-- One write, of block 0 with the raised superblock, and one flush; nothing else that takes time. Nothing was examined:
-- only what is fixed is known
pub record BeginsMount (old new : DiskState) (k : Books) : Type 0 where
  pub disk : IsSameDisk old new
  pub past : KeepsPast old new
  pub before : SuperBlock
  pub mounts : MountsBy old before
  pub at : k.at ≡ raised before
  pub moment : new.moment ≡ old.moment + 4
  pub now : new.now ≡ slice_set old.now 0 (super_cell k.at)
  pub settled : IsSettled new
  pub was : new.was new.moment ≡ new.now
  pub clean : new.dirty ≡ []
  pub during : LeavesRaised old new k.at
  pub begun : HasBegun new k.at k

-- The write or the flush failed, and not before the write began: a read gives what it gave before, or the raised
-- superblock in block 0, and a crash leaves what it might before, or that superblock there
pub record IsBeginStopped (old new : DiskState) : Type 0 where
  pub before : SuperBlock
  pub mounts : MountsBy old before
  pub cause : Rose old.faults new.faults
  pub began : old.moment < new.moment
  pub most : new.moment ≤ old.moment + 4
  pub now : (new.now ≡ old.now) ⊎ (new.now ≡ slice_set old.now 0 (super_cell (raised before)))
  -- nothing was made durable: what a block might hold before it may still hold, and only block 0 holds more
  pub kept : (b : ℕ) (c : Cell) → Contains (old.may b) c → Contains (new.may b) c
  pub others : (b : ℕ) → b ≢ 0 → new.may b ≡ old.may b
  pub cells : (b : ℕ) (c : Cell) → Contains (new.may b) c → WasOr (IsSuperCell (raised before)) old b c
  pub during : LeavesRaised old new (raised before)

-- why a mount did not begin. Where a write or a flush failed, the next mount finds the disk as sound as this one
pub record BeginFails (old new : DiskState) (why : MountFault) : Type 0 where
  pub disk : IsSameDisk old new
  pub past : KeepsPast old new
  pub refused : why ≢ fault.WriteFault → KeepsCells old new × IsMountRefused old new why
  pub wrote : why ≡ fault.WriteFault → Rose old.faults new.faults
  pub stopped : why ≡ fault.WriteFault → IsBeginStopped old new
  pub sound : IsSoundDisk old → Sounds old.moment new

-- the mount did not begin, for some cause
abbrev pub Unmounted : DiskState → DiskState → Type 0
Unmounted old new = ∥ ((why : MountFault) × BeginFails old new why) ∥₁
