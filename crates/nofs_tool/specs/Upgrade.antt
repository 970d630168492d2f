-- What an upgrade leaves, by its status.
use Rattle.std.specs.Prelude.{◌≡◌, ◌≢◌, ◌⊎◌, ℕ, ◌<◌, IsTrue, Err}
use Rattle.nofs_disk.specs.Disk.{DiskState, KeepsCells, Rose, cell_at}
use Rattle.nofs_super.specs.declared.superblock.MountFault.TheVariants as fault
use Rattle.nofs_io.specs.Calls.{SinkState}
use Rattle.nofs_io.specs.Texts.{AppendsAll}
use Rattle.nofs_tool.specs.Begin.Lines.{fixed_line}
use Rattle.nofs_tool.specs.declared.begin.lines.FixedLine.TheVariants.{Upgraded as UpgradedLine}
use Rattle.nofs_upgrade.specs.Upgrades.{IsUpgradeRefused, IsUpgradeStopped, IsUpgraded, StaysOrUpgrades}
use Rattle.nofs_upgrade.specs.Upgrades.{check_upgrade}
use Rattle.nofs_upgrade.specs.declared.fault.UpgradeFault.{UpgradeFault}
use Rattle.nofs_upgrade.specs.declared.fault.UpgradeFault.TheVariants as why

abbrev pub upgrade_status : UpgradeFault → ℕ
upgrade_status why.Already = 4
upgrade_status (why.Mount fault.ReadFault) = 3
upgrade_status (why.Mount fault.WriteFault) = 3
upgrade_status (why.Mount fault.OutOfMemory) = 7
upgrade_status (why.Mount _) = 4

-- the device was not upgraded, and nothing was written: its superblock has this fault, by the table
abbrev pub IsRefusedUpgrade : DiskState → DiskState → Type 0
IsRefusedUpgrade old new = KeepsCells old new
    × (0 < old.blocks → IsTrue old.tells
    → (why : UpgradeFault) × (check_upgrade old.blocks (cell_at old.now 0).payload ≡ Err why))

-- what an upgrade with this fault left of the device
pub record UpgradeFails (old new : DiskState) (had : UpgradeFault) : Type 0 where
  pub stopped : had ≡ why.Mount fault.WriteFault → IsUpgradeStopped old new
  pub refused : had ≢ why.Mount fault.WriteFault → IsUpgradeRefused old new had

-- what comes of an upgrade: at status 0 it was made and the sink took its line
pub record UpgradeEnds (old new : DiskState) (sink_old sink_new : SinkState) (status : ℕ) : Type 0 where
  pub named : (status ≡ 0) ⊎ (status ≡ 3) ⊎ (status ≡ 4) ⊎ (status ≡ 5) ⊎ (status ≡ 7)
  pub done : status ≡ 0 → IsUpgraded old new × AppendsAll sink_old sink_new (fixed_line UpgradedLine)
  pub device : status ≡ 3 → Rose old.faults new.faults
  pub refused : status ≡ 4 → IsRefusedUpgrade old new
  pub sink : status ≡ 5 → IsUpgraded old new × Rose sink_old.faults sink_new.faults
  -- at every moment a crash leaves an image that it could leave before, or that one with version 2
  pub images : IsTrue old.tells → StaysOrUpgrades old new
