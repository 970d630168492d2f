-- Why a call has no answer, as a number.
use Rattle.std.specs.Prelude.{◌≡◌, ◌≢◌, ℕ, List, Option, Some, None}
use Rattle.nofs_super.specs.declared.superblock.MountFault.{MountFault}
use Rattle.nofs_super.specs.declared.superblock.MountFault.TheVariants as fault
use Rattle.nofs_reader.specs.Layouts.{HasBadPage}
use Rattle.nofs_reader.specs.declared.opened.Unread.{Unread}
use Rattle.nofs_reader.specs.declared.opened.Unread.TheVariants as unread

-- the faults of a superblock, in the order in which they are looked for. The last three are of calls that write or
-- fail, so no image has them
abbrev pub fault_code : MountFault → ℕ
fault_code (fault.BadMagic found) = 1
fault_code (fault.BadVersion found) = 2
fault_code (fault.BadRest at) = 3
fault_code (fault.BadGeometry blocks inodes) = 4
fault_code (fault.DeviceTooSmall has) = 5
fault_code (fault.MountsSpent found) = 6
fault_code fault.ReadFault = 12
fault_code fault.WriteFault = 13
fault_code fault.OutOfMemory = 14

-- why there is no answer
abbrev pub unread_code : Unread → ℕ
unread_code (unread.NoImage fault) = fault_code fault
unread_code unread.NoInode = 7
unread_code unread.NotDirectory = 8
unread_code unread.IsDirectory = 9
unread_code unread.TooLarge = 10
unread_code unread.NoRoom = 11
unread_code (unread.BadPage page) = 15

-- 0 where there is one
abbrev pub code_of : Option Unread → ℕ
code_of None = 0
code_of (Some why) = unread_code why

-- the number that a call returns: the one of the definitions, or that of a page that can't be told, where there is one
pub record IsCode (bytes : List ℕ) (why : Option Unread) (code : ℕ) : Type 0 where
  pub same : code ≢ 15 → code ≡ code_of why
  pub bad : code ≡ 15 → HasBadPage bytes
