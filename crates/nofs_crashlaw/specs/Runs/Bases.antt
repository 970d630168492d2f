-- What a mount leaves for the machine to run over, and a history of the machine over it.
use Rattle.std.specs.Prelude.{◌≡◌, ℕ, ◌+◌, ◌*◌, ◌^◌, ◌<◌, ◌≤◌, true}
use Rattle.nofs_model.specs.Geometry.{Image, super_at, IsSized, is_mountable}
use Rattle.nofs_model.specs.Sound.{IsBelow, IsSound}
use Rattle.nofs_history.specs.HistoryState.{HistoryState}
use Rattle.nofs_history.specs.World.{World}
use Rattle.nofs_history.specs.Next.{IsAfter}
use Rattle.nofs_crashlaw.specs.Lives.{Raised, HasSuperCell}

-- A base as a mount leaves it: block 0 spells the numbers of a device, its mount number fits, and each generation and
-- stamp is below the first one that this mount gives
pub record IsBase (B : Image) (first : ℕ) : Type 0 where
  pub mountable : is_mountable B ≡ true
  pub sized : IsSized B
  pub mount : (super_at B).mount < 2 ^ 24
  pub serial : first ≤ 2 ^ 40
  pub positive : 0 < (super_at B).mount * 2 ^ 40 + first
  pub below : IsBelow ((super_at B).mount * 2 ^ 40 + first) B

-- The raise of the mount number of a sound image leaves one, with 0 as the first serial or any up to the last.
abbrev pub LawMounted : Type 0
LawMounted = (X Y : Image) (first : ℕ) → IsSound X → Raised X Y → HasSuperCell Y → IsSized Y
    → (super_at Y).mount < 2 ^ 24 → first ≤ 2 ^ 40 → IsBase Y first

-- a history of the machine over such a base
pub record IsHistory (B : Image) (H : HistoryState) : Type 0 where
  pub first : ℕ
  pub base : IsBase B first
  pub world : World
  pub run : IsAfter B first H world
