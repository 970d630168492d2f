-- The lines of a run that served no session (docs/FORMAT.md, "Other lines of the program").
use Rattle.std.specs.Prelude.{ℕ, List, [], codes, ◌++◌, flat_map}
use Rattle.std.specs.Fmt.{decimal}
use Rattle.hex.specs.Hex.{encode_lower}
use Rattle.nofs_super.specs.declared.geometry.FormatFault.{FormatFault}
use Rattle.nofs_super.specs.declared.geometry.FormatFault.TheVariants as format
use Rattle.nofs_super.specs.declared.superblock.MountFault.{MountFault}
use Rattle.nofs_super.specs.declared.superblock.MountFault.TheVariants as mount
use Rattle.nofs_script.specs.declared.faults.ScriptFault.{ScriptFault}
use Rattle.nofs_script.specs.declared.faults.ScriptKind.{ScriptKind}
use Rattle.nofs_script.specs.declared.faults.ScriptKind.TheVariants as script
use Rattle.nofs_upgrade.specs.declared.fault.UpgradeFault.{UpgradeFault}
use Rattle.nofs_upgrade.specs.declared.fault.UpgradeFault.TheVariants as upgrade
use Rattle.nofs_tool.specs.declared.begin.mounts.Cause.{Cause}
use Rattle.nofs_tool.specs.declared.begin.mounts.Cause.TheVariants as cause
use Rattle.nofs_tool.specs.declared.begin.lines.FixedLine.{FixedLine}
use Rattle.nofs_tool.specs.declared.begin.lines.FixedLine.TheVariants as fixed
use Rattle.nofs_tool.specs.declared.begin.lines.Part.{Part}
use Rattle.nofs_tool.specs.declared.begin.lines.Part.TheVariants as part

-- what a part of a line spells
abbrev pub part_text : Part → List ℕ
part_text (part.Words words) = words.now
part_text (part.Number number) = decimal number
part_text (part.Bytes bytes) = encode_lower bytes

-- and all of them, in order
abbrev pub parts_text : List Part → List ℕ
parts_text parts = flat_map part_text parts

-- a line that is always the same
unfoldable pub fixed_line : FixedLine → List ℕ
fixed_line fixed.Usage =
    codes "usage: nofs IMAGE new BLOCKS INODES | run | scan | drill START STEPS | upgrade | salvage [PREFIX] | wire\n"
fixed_line fixed.SourceFault = codes "source fault\n"
fixed_line fixed.TooLong = codes "session longer than 16777216 bytes\n"
fixed_line fixed.DeviceFault = codes "device fault\n"
fixed_line fixed.Upgraded = codes "upgraded\n"

-- a line of words and a number
abbrev pub number_line : List ℕ → ℕ → List ℕ
number_line words number = words ++ decimal number ++ codes "\n"

-- what is wrong with a line of a session
abbrev pub script_words : ScriptKind → List ℕ
script_words script.UnknownCommand = codes "unknown command"
script_words script.WordCount = codes "wrong number of words"
script_words script.BadPath = codes "bad path"
script_words script.BadNumber = codes "bad number"
script_words script.BadHex = codes "bad hex"
script_words script.TooManyUsers = codes "too many users"
script_words script.TooMuchAsked = codes "too much asked"
script_words script.TooManyCommands = codes "too many commands"

-- the eight bytes that were found, in hexadecimal
abbrev pub magic_line : List ℕ → List ℕ
magic_line found = codes "mount: bad magic " ++ encode_lower found ++ codes "\n"

-- of a text that is no session: its first bad line, counted from 1
unfoldable pub script_line : ScriptFault → List ℕ
script_line fault = codes "line " ++ decimal fault.line ++ codes ": " ++ script_words fault.kind ++ codes "\n"

-- of a format that was refused; nothing is said where memory was wanting
abbrev pub format_line : FormatFault → List ℕ
format_line (format.TooSmall least) = number_line (codes "format: too small, least ") least
format_line (format.TooLarge most) = number_line (codes "format: too large, most ") most
format_line (format.NotMultiple inodes) = number_line (codes "format: bad inodes ") inodes
format_line format.WriteFault = fixed_line fixed.DeviceFault
format_line format.OutOfMemory = []

-- the numbers that no format takes
abbrev pub geometry_line : ℕ → ℕ → List ℕ
geometry_line blocks inodes =
    codes "mount: bad geometry, blocks " ++ decimal blocks ++ codes ", inodes " ++ decimal inodes ++ codes "\n"

-- the first byte that had to be zero
abbrev pub rest_line : ℕ → List ℕ
rest_line at = codes "mount: byte " ++ decimal at ++ codes " is not zero\n"

-- of a mount that was refused; nothing is said where memory was wanting
abbrev pub mount_line : MountFault → List ℕ
mount_line (mount.BadMagic found) = magic_line found
mount_line (mount.BadVersion found) = number_line (codes "mount: bad version ") found
mount_line (mount.BadGeometry blocks inodes) = geometry_line blocks inodes
mount_line (mount.DeviceTooSmall has) = number_line (codes "mount: device too small, has ") has
mount_line (mount.MountsSpent found) = number_line (codes "mount: mounts spent, number ") found
mount_line (mount.BadRest at) = rest_line at
mount_line mount.ReadFault = fixed_line fixed.DeviceFault
mount_line mount.WriteFault = fixed_line fixed.DeviceFault
mount_line mount.OutOfMemory = []

-- of a device that was not formatted and mounted
abbrev pub cause_line : Cause → List ℕ
cause_line cause.Device = fixed_line fixed.DeviceFault
cause_line cause.NoMemory = []
cause_line (cause.Format fault) = format_line fault
cause_line (cause.Mount fault) = mount_line fault

-- of an upgrade that was refused
abbrev pub upgrade_line : UpgradeFault → List ℕ
upgrade_line (upgrade.Mount fault) = mount_line fault
upgrade_line upgrade.Already = codes "upgrade: already version 2\n"
