-- What an upgrade is, why it is refused, and what a crash may leave while it runs.
use Rattle.std.specs.Prelude.{◌≡◌, ◌≢◌, ◌==◌, ℕ, ◌+◌, ◌<◌, ◌≤◌, ◌⊎◌, if◌then◌else◌, List, [], length, IsTrue, Some}
use Rattle.std.specs.Prelude.{Result, Ok, Err, IfOk, IfErr, Contains, slice_set}
use Rattle.nofs_disk.specs.Adds.{WasOr}
use Rattle.nofs_disk.specs.Disk.{DiskState, IsSameDisk, IsSettled, KeepsCells, KeepsPast, Picks, Rose, cell_at}
use Rattle.nofs_disk.specs.Moments.{AtEach}
use Rattle.nofs_disk.specs.Number.{IsBytes, put_number}
use Rattle.nofs_disk.specs.Tag.{tag_bytes}
use Rattle.nofs_super.specs.Format.{super_cell}
use Rattle.nofs_super.specs.Raise.{IsSuperCell}
use Rattle.nofs_super.specs.Super.{CanMount, check_super, super_of}
use Rattle.nofs_super.specs.declared.superblock.MountFault.{MountFault}
use Rattle.nofs_super.specs.declared.superblock.MountFault.TheVariants as mount
use Rattle.nofs_disk.specs.declared.tag.Cell.{Cell}
use Rattle.nofs_disk.specs.declared.tag.Kind.TheVariants.{Super}
use Rattle.nofs_super.specs.declared.superblock.SuperBlock.{SuperBlock}
use Rattle.nofs_model.specs.Geometry.{Image}
use Rattle.nofs_model.specs.Sound.{IsSound}
use Rattle.nofs_crashlaw.specs.Lives.{HasSuperCell, SameOrUpgraded, SaysTheSame, Upgraded}
use Rattle.nofs_upgrade.specs.declared.fault.UpgradeFault.{UpgradeFault}
use Rattle.nofs_upgrade.specs.declared.fault.UpgradeFault.TheVariants.{Already, Mount}

-- What is written

-- a superblock with version 2
abbrev pub second : SuperBlock → SuperBlock
second it = record it { version = 2 }

-- the cell of block 0 with version 2 and the tag of a superblock: each other byte of its payload is as it was
abbrev pub second_cell : Cell → Cell
second_cell c = record {
  payload = put_number 4 8 2 c.payload;
  tag = tag_bytes (record { kind = Super; inode = 0; generation = 0; slot = 0; stamp = 0 });
}

-- Y is X but for the version and the tag of block 0
pub record OnlyVersion (X Y : Image) : Type 0 where
  pub size : length Y ≡ length X
  pub others : (b : ℕ) → b ≢ 0 → cell_at Y b ≡ cell_at X b
  pub first : cell_at Y 0 ≡ second_cell (cell_at X 0)

-- Y is X of version 1 with version 2: a superblock as before, and an upgrade between two lives
pub record IsSecond (X Y : Image) : Type 0 where
  pub only : OnlyVersion X Y
  pub upgraded : Upgraded X Y
  pub spelled : HasSuperCell Y

-- X is an image that picks from what the disk may hold, or such an image with version 2; its records, values, agreed
-- inodes and verdicts are of that image, and it is as sound
pub record IsFoundOrSecond (d : DiskState) (X : Image) : Type 0 where
  pub found : Image
  pub picks : Picks d.may d.blocks found
  pub is : (X ≡ found) ⊎ IsSecond found X
  pub between : SameOrUpgraded found X
  pub same : SaysTheSame found X
  pub sound : IsSound found → IsSound X

-- each image that a crash may leave, from the beginning of the call on, is such a one
pub record StaysOrUpgrades (old new : DiskState) : Type 0 where
  pub moments : AtEach (λ m X. IsFoundOrSecond old X) old.moment new
  pub picks : (X : Image) → Picks new.may new.blocks X → IsFoundOrSecond old X

-- How it ends

-- the table of faults from the version on
abbrev pub check_version : Result SuperBlock MountFault → Result SuperBlock UpgradeFault
check_version (Err why) = Err (Mount why)
check_version (Ok it) = if it.version == 2 then Err Already else Ok it

-- the table of faults: the superblock of a payload that is upgraded on a device of this many blocks, or the first fault
-- that it has
abbrev pub check_upgrade : ℕ → List ℕ → Result SuperBlock UpgradeFault
check_upgrade device payload = check_version (check_super device payload)

-- block 0 holds this superblock of version 1, and the table has no fault
pub record CanUpgrade (d : DiskState) (it : SuperBlock) : Type 0 where
  pub can : CanMount d.blocks it
  pub first : it.version ≡ 1
  pub spelled : IsTrue d.tells → super_of (cell_at d.now 0).payload ≡ Some it
  pub table : IsTrue d.tells → check_upgrade d.blocks (cell_at d.now 0).payload ≡ Ok it

-- block 0 has version 2 after one write and one flush, and nothing else is possible
pub record IsUpgraded (old new : DiskState) : Type 0 where
  pub before : SuperBlock
  pub can : CanUpgrade old before
  pub now : new.now ≡ slice_set old.now 0 (super_cell (second before))
  pub only : IsTrue old.tells → OnlyVersion old.now new.now
  pub version : IsTrue old.tells → super_of (cell_at new.now 0).payload ≡ Some (second before)
  pub settled : IsSettled new
  pub left : IsTrue old.tells → (X : Image) → new.left new.moment X → X ≡ new.now
  pub was : new.was new.moment ≡ new.now
  pub clean : new.dirty ≡ []
  pub moment : new.moment ≡ old.moment + 4

-- the write or the flush failed: block 0 may have either version
pub record IsUpgradeStopped (old new : DiskState) : Type 0 where
  pub before : SuperBlock
  pub can : CanUpgrade old before
  pub cause : Rose old.faults new.faults
  pub began : old.moment < new.moment
  pub most : new.moment ≤ old.moment + 4
  pub now : (new.now ≡ old.now) ⊎ (new.now ≡ slice_set old.now 0 (super_cell (second before)))
  -- nothing was made durable: what a block might hold before it may still hold, and only block 0 holds more
  pub kept : (b : ℕ) (c : Cell) → Contains (old.may b) c → Contains (new.may b) c
  pub others : (b : ℕ) → b ≢ 0 → new.may b ≡ old.may b
  -- a crash leaves what it might before, but in block 0 perhaps version 2
  pub cells : (b : ℕ) (c : Cell) → Contains (new.may b) c → WasOr (IsSuperCell (second before)) old b c

-- neither a read that failed nor want of memory: a fault that block 0 has
abbrev pub IsOfTable : UpgradeFault → Type 0
IsOfTable why = (why ≢ Mount mount.ReadFault) × (why ≢ Mount mount.OutOfMemory)

-- why an upgrade was refused: by the table, by a failed read, or for want of memory. Nothing was written
pub record IsUpgradeRefused (old new : DiskState) (why : UpgradeFault) : Type 0 where
  pub cells : KeepsCells old new
  pub dirty : new.dirty ≡ old.dirty
  pub no_write : why ≢ Mount mount.WriteFault
  pub empty : old.blocks ≡ 0 → why ≡ Mount (mount.DeviceTooSmall 0)
  pub read : why ≡ Mount mount.ReadFault → Rose old.faults new.faults
  pub memory : why ≡ Mount mount.OutOfMemory → (it : SuperBlock) × CanUpgrade old it
  pub told : IsOfTable why → 0 < old.blocks → IsTrue old.tells
      → check_upgrade old.blocks (cell_at old.now 0).payload ≡ Err why
  pub some : IsOfTable why
      → 0 < old.blocks → (payload : List ℕ) × IsBytes 1024 payload × (check_upgrade old.blocks payload ≡ Err why)

-- what comes before the write: the superblock, with room for two calls
pub record PreparesUpgrade (old new : DiskState) (result : Result SuperBlock UpgradeFault) : Type 0 where
  pub disk : IsSameDisk old new
  pub past : KeepsPast old new
  pub cells : KeepsCells old new
  pub room : IfOk result (λ it. 2 ≤ new.spare)
  pub ok : IfOk result (CanUpgrade old)
  pub err : IfErr result (IsUpgradeRefused old new)
