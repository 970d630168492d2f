-- What a step on names does to the homes of the blocks.
use Rattle.std.specs.Prelude.{◌≡◌, ◌≢◌, ℕ, true, Some, None, is_some}
use Rattle.nofs_model.specs.Geometry.{Image}
use Rattle.nofs_model.specs.Owners.{Home}
use Rattle.nofs_history.specs.Machine.{Given, files_after}
use Rattle.nofs_history.specs.History.{FilesMatch}
use Rattle.nofs_history.specs.World.{World}
use Rattle.nofs_history.specs.Claims.{cell_slot, IsClaim}
use Rattle.nofs_history.specs.declared.machine.history.Claims.{Claims}
use Rattle.nofs_history.specs.declared.machine.steps.Step.{Step}
use Rattle.nofs_crashlaw.specs.Untouched.Frames.{OldPointers}
use Rattle.nofs_crashlaw.specs.Maps.Homes.{HomesMove}
use Rattle.nofs_crashlaw.specs.Maps.Moves.{ClaimsStand, HeldMove}
use Rattle.nofs_crashlaw.specs.Names.OldEntries.{NameWrites}

-- a step that writes the directory d and the inode i alone: its claimed blocks stand, and of both each other block
-- stays
pub record NameMoves (W : World) (step : Step) (c : Claims) (given : Given) (s d i : ℕ) (X Y : Image) : Type 0 where
  pub claim : IsClaim W step c
  pub writes : NameWrites s d i X Y
  pub before : FilesMatch W.files X
  pub after : FilesMatch (files_after W.files given) Y
  pub old : (j : ℕ) → is_some (W.files j) ≡ true → OldPointers s X j
  -- no other inode is born
  pub born : (j : ℕ) → j ≢ d → j ≢ i → given.born j ≡ None
  pub stand : (at : Home) → cell_slot W.files step ≡ Some at → ClaimsStand c Y at
  pub directory : HeldMove c X Y d
  pub inode : HeldMove c X Y i

-- Then each block has its home.
abbrev pub LawNameHomes : Type 0
LawNameHomes = (W : World) (step : Step) (c : Claims) (given : Given) (s d i : ℕ) (X Y : Image)
    → NameMoves W step c given s d i X Y
    → HomesMove W.files step c X Y
