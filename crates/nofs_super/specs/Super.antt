-- The superblock, as the payload of block 0 spells it.
use Rattle.std.specs.Prelude.{◌≡◌, ◌≢◌, ℕ, ◌+◌, ◌-◌, ◌^◌, ◌<◌, ◌==◌, if◌then◌else◌, Bool, true, not, ◌&&◌, ◌||◌, nat_lt}
use Rattle.std.specs.Prelude.{nat_le, List, take, position, codes}
use Rattle.std.specs.Prelude.{nat_eq, Option, Some, None, is_none, Result, Ok, Err, slice_range}
use Rattle.std.specs.Option.{option_map, option_or}
use lib.Pointwise.{pointwise}
use Rattle.nofs_disk.specs.Number.{number_at}
use Rattle.nofs_super.specs.Geometry.{IsGeometry, is_geometry}
use Rattle.nofs_super.specs.declared.superblock.SuperBlock.{SuperBlock}
use Rattle.nofs_super.specs.declared.superblock.MountFault.{MountFault}
use Rattle.nofs_super.specs.declared.superblock.MountFault.TheVariants.{BadMagic, BadVersion, BadGeometry}
use Rattle.nofs_super.specs.declared.superblock.MountFault.TheVariants.{DeviceTooSmall}
use Rattle.nofs_super.specs.declared.superblock.MountFault.TheVariants.{MountsSpent, BadRest, WriteFault, OutOfMemory}

-- the first eight bytes
abbrev pub magic : List ℕ
magic = codes "NoFSv001"

-- whether the first eight bytes are these
abbrev pub has_magic : List ℕ → Bool
has_magic payload = pointwise nat_eq (take 8 payload) magic

-- whether there are superblocks of this version
abbrev pub is_version : ℕ → Bool
is_version version = (version == 1) || (version == 2)

-- the first byte of bytes 12 to 15 and 40 to 1,023 that isn't zero
abbrev pub rest_fault : List ℕ → Option ℕ
rest_fault payload =
    option_or (option_map (λ at. 12 + at) (position (λ byte. not (byte == 0)) (slice_range payload 12 16)))
    (option_map (λ at. 40 + at) (position (λ byte. not (byte == 0)) (slice_range payload 40 1024)))

-- the numbers in the places of a superblock's, whatever the other bytes are
unfoldable pub super_in : List ℕ → SuperBlock
super_in payload = record {
  version = number_at 4 8 payload;
  blocks = number_at 8 16 payload;
  inodes = number_at 8 24 payload;
  mount = number_at 8 32 payload;
}

-- whether a payload spells a superblock
unfoldable pub is_super : List ℕ → Bool
is_super payload = has_magic payload && (is_version (super_in payload).version && is_none (rest_fault payload))

-- the superblock that a payload spells
unfoldable pub super_of : List ℕ → Option SuperBlock
super_of payload = if is_super payload then Some (super_in payload) else None

-- a superblock that a device of this many blocks is mounted by
pub record CanMount (device : ℕ) (it : SuperBlock) : Type 0 where
  pub version : is_version it.version ≡ true
  pub geometry : IsGeometry device it.blocks it.inodes
  pub mount : it.mount < 2 ^ 24 - 1

-- the rows of the table of faults from the geometry on
abbrev pub check_numbers : ℕ → SuperBlock → Result SuperBlock MountFault
check_numbers device it =
    if not (is_geometry (2 ^ 64 - 1) it.blocks it.inodes) then Err (BadGeometry it.blocks it.inodes)
    else if nat_lt device it.blocks then Err (DeviceTooSmall device)
    else if nat_le (2 ^ 24 - 1) it.mount then Err (MountsSpent it.mount)
    else Ok it

-- the rows of the table of faults from the rest on
abbrev pub check_rest : ℕ → SuperBlock → Option ℕ → Result SuperBlock MountFault
check_rest device it (Some at) = Err (BadRest at)
check_rest device it None = check_numbers device it

-- the table of faults: the superblock of a payload on a device of this many blocks, or the first fault that it has
unfoldable pub check_super : ℕ → List ℕ → Result SuperBlock MountFault
check_super device payload =
    if not (has_magic payload) then Err (BadMagic (take 8 payload))
    else if not (is_version (super_in payload).version) then Err (BadVersion (super_in payload).version)
    else check_rest device (super_in payload) (rest_fault payload)

-- the answer of a call that does nothing but read: it names no failed write, and no want of memory
pub record IsReadAnswer (result : Result SuperBlock MountFault) : Type 0 where
  -- no write failed
  pub no_write : result ≢ Err WriteFault
  -- no memory was wanted
  pub no_memory : result ≢ Err OutOfMemory
