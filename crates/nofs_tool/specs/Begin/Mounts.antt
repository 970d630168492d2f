-- Why a device was not formatted and mounted.
use Rattle.std.specs.Prelude.{◌≡◌, ◌≢◌, ◌⊎◌, ℕ, ◌≤◌, ◌<◌, IsTrue, None, Some, Err}
use Rattle.std.specs.declared.option.Option.{Option}
use Rattle.nofs_disk.specs.Adds.{Adds}
use Rattle.nofs_disk.specs.Disk.{DiskState, KeepsCells, Rose, cell_at}
use Rattle.nofs_super.specs.Format.{FormatEnds, IsFormatted, IsFreshCell}
use Rattle.nofs_super.specs.Geometry.{format_fault}
use Rattle.nofs_super.specs.Raise.{raised}
use Rattle.nofs_super.specs.Super.{check_super}
use Rattle.nofs_super.specs.declared.geometry.FormatFault.{FormatFault}
use Rattle.nofs_super.specs.declared.geometry.FormatFault.TheVariants as format
use Rattle.nofs_super.specs.declared.superblock.MountFault.{MountFault}
use Rattle.nofs_super.specs.declared.superblock.MountFault.TheVariants as mount
use Rattle.nofs_super.specs.declared.superblock.SuperBlock.{SuperBlock}
use Rattle.nofs_shared.specs.Mount.Begin.{BeginFails, MountsBy}
use Rattle.nofs_tool.specs.declared.begin.mounts.Cause.{Cause}
use Rattle.nofs_tool.specs.declared.begin.mounts.Cause.TheVariants.{Device, NoMemory, Format, Mount}
use Rattle.nofs_tool.specs.declared.begin.mounts.Numbers.{Numbers}
use Rattle.nofs_tool.specs.Session.Whole.{IsMet}

-- Over any disk the superblock of a mount is one by which a disk of so many blocks can be mounted, with a mount number
-- one higher; where the disk that it found tells, it is the one that block 0 spelled
pub record IsRaisedFrom (found : DiskState) (at : SuperBlock) : Type 0 where
  pub before : SuperBlock
  pub mounts : MountsBy found before
  pub is : at ≡ raised before

-- the cause that the program tells of a mount
abbrev pub mount_cause : MountFault → Cause
mount_cause mount.ReadFault = Device
mount_cause mount.WriteFault = Device
mount_cause mount.OutOfMemory = NoMemory
mount_cause (mount.BadMagic found) = Mount (mount.BadMagic found)
mount_cause (mount.BadVersion found) = Mount (mount.BadVersion found)
mount_cause (mount.BadGeometry blocks inodes) = Mount (mount.BadGeometry blocks inodes)
mount_cause (mount.DeviceTooSmall has) = Mount (mount.DeviceTooSmall has)
mount_cause (mount.MountsSpent found) = Mount (mount.MountsSpent found)
mount_cause (mount.BadRest place) = Mount (mount.BadRest place)

-- and of a format
abbrev pub format_cause : FormatFault → Cause
format_cause format.WriteFault = Device
format_cause format.OutOfMemory = NoMemory
format_cause (format.TooSmall least) = Format (format.TooSmall least)
format_cause (format.TooLarge most) = Format (format.TooLarge most)
format_cause (format.NotMultiple inodes) = Format (format.NotMultiple inodes)

-- 3 for a fault of the device, 7 for want of memory, 4 for all others
abbrev pub status_of : Cause → ℕ
status_of Device = 3
status_of NoMemory = 7
status_of (Format fault) = 4
status_of (Mount fault) = 4

-- the device is told of only where its count of faults rose
pub record IsCaused (old new : DiskState) (cause : Cause) : Type 0 where
  pub later : old.faults ≤ new.faults
  pub device : cause ≡ Device → Rose old.faults new.faults

-- these numbers can't be those of the device
abbrev pub IsRefusedFormat : DiskState → ℕ → ℕ → Type 0
IsRefusedFormat old blocks inodes = (fault : FormatFault) × (format_fault old.blocks blocks inodes ≡ Some fault)

-- the superblock of this device has this fault, by the table of its faults
abbrev pub IsMountRefusal : DiskState → MountFault → Type 0
IsMountRefusal old fault = 0 < old.blocks → IsTrue old.tells
    → check_super old.blocks (cell_at old.now 0).payload ≡ Err fault

-- Why a device was not mounted: the fault of the mount, with what it left of the device, and the cause that is told of
-- it. Where that is none of the device, no write was made; a refusal with status 4 tells the first fault of the
-- superblock
pub record IsUnmounted (old new : DiskState) (cause : Cause) : Type 0 where
  pub why : MountFault
  pub told : cause ≡ mount_cause why
  pub fails : BeginFails old new why
  pub caused : IsCaused old new cause
  pub unwritten : status_of cause ≢ 3 → KeepsCells old new
  pub table : status_of cause ≡ 4 → (fault : MountFault) × IsMountRefusal old fault

-- why a device was not formatted and mounted: a refusal with status 4 made no write, or it was that of the mount after
-- a format, which a device that tells does not make; a fault of the device came after the numbers were accepted
pub record IsUnformatted (old new : DiskState) (blocks inodes : ℕ) (cause : Cause) : Type 0 where
  pub caused : IsCaused old new cause
  pub unwritten : status_of cause ≡ 4 → (IsRefusedFormat old blocks inodes × KeepsCells old new)
      ⊎ (old.moment < new.moment)
  pub table : IsTrue old.tells → status_of cause ≡ 4 → IsRefusedFormat old blocks inodes
  pub accepted : status_of cause ≡ 3 → format_fault old.blocks blocks inodes ≡ None

module _ {D : Type 0} (state : D → DiskState) where
  -- the format failed with this fault, and put none but its own cells on the device
  pub record IsFormatFailed (numbers : Numbers) (old new : D) (cause : Cause) : Type 0 where
    pub why : FormatFault
    pub told : cause ≡ format_cause why
    pub ends : FormatEnds numbers.blocks numbers.inodes (state old) (state new) (Err why)
    pub adds : Adds (IsFreshCell numbers.blocks numbers.inodes) (state old) (state new)

  -- the device was formatted, and then it was not mounted
  pub record IsFormattedAlone (numbers : Numbers) (old new : D) (cause : Cause) : Type 0 where
    pub found : D
    pub formatted : IsFormatted numbers.blocks numbers.inodes (state old) (state found)
    pub met : IsTrue (state old).tells → IsMet (state found)
    pub unmounted : IsUnmounted (state found) (state new) cause

  -- why no mount stood: where there are numbers, the device was to be formatted with them
  abbrev pub HasNoMount : Option Numbers → D → D → Cause → Type 0
  HasNoMount None old new cause = IsUnmounted (state old) (state new) cause
  HasNoMount (Some numbers) old new cause =
      IsFormatFailed numbers old new cause ⊎ IsFormattedAlone numbers old new cause
