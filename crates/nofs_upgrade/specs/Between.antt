-- An upgrade between two lives of a disk.
use Rattle.std.specs.Prelude.{ℕ}
use Rattle.nofs_disk.specs.Disk.{DiskState, Picks}
use Rattle.nofs_disk.specs.Moments.{AtEach}
use Rattle.nofs_model.specs.Geometry.{Image}
use Rattle.nofs_model.specs.Sound.{IsSound}
use Rattle.nofs_history.specs.Allowed.{IsAllowed}
use Rattle.nofs_crashlaw.specs.Lives.{Life, NextLife, Raised, SameOrUpgraded}
use Rattle.nofs_upgrade.specs.Upgrades.{StaysOrUpgrades}

-- each image that picks from what the disk may hold is sound
abbrev pub AreSound : DiskState → Type 0
AreSound d = (X : Image) → Picks d.may d.blocks X → IsSound X

-- A disk whose images are sound has sound images at each moment of an upgrade, and after it.
abbrev pub LawSoundUpgrade : DiskState → DiskState → Type 0
LawSoundUpgrade old new = StaysOrUpgrades old new → AreSound old
    → AreSound new × AtEach (λ m X. IsSound X) old.moment new

-- A life that begins at an image of an upgrade, whenever a crash ended it, comes next after the life whose images the
-- disk may hold.
abbrev pub LawUpgradeBetween : DiskState → DiskState → Type 0
LawUpgradeBetween old new =
    StaysOrUpgrades old new → (before after : Life) (m : ℕ)
    → ((X : Image) → Picks old.may old.blocks X → IsAllowed before.base before.history m X)
    → (X : Image) → Picks new.may new.blocks X → Raised X after.base → NextLife before after

-- An upgrade that ended early and is run again is one upgrade.
abbrev pub LawUpgradeAgain : Type 0
LawUpgradeAgain = (X Y Z : Image) → SameOrUpgraded X Y → SameOrUpgraded Y Z → SameOrUpgraded X Z
