-- What the frame lemmas say of the homes.
use Rattle.std.specs.Prelude.{◌≡◌, ℕ, ◌<◌, ◌⊎◌, Bool, true, false, Some}
use Rattle.nofs_crashlaw.specs.Untouched.Frames.{OldPointers, Touches}
use Rattle.nofs_crashlaw.specs.Maps.Homes.{HomesMove}
use Rattle.nofs_model.specs.declared.image.path.PathAnswer.TheVariants as answer
use Rattle.nofs_history.specs.declared.machine.steps.Step.{Step}
use Rattle.nofs_history.specs.declared.machine.history.Claims.{Claims}
use Rattle.nofs_history.specs.World.{World}
use Rattle.nofs_history.specs.Claims.{is_claimed, cell_slot, slot_above, IsClaim}
use Rattle.nofs_disk.specs.declared.tag.Pointer.{Pointer}
use Rattle.nofs_ptrs.specs.Paths.{slot_limit, Path, path_of, IsSlot}
use Rattle.nofs_model.specs.Geometry.{Image}
use Rattle.nofs_model.specs.Files.{files_in, agreed}
use Rattle.nofs_model.specs.Slots.{find, IsAbove}
use Rattle.nofs_model.specs.Owners.{Home}

abbrev pub IsClaimed : Claims → Pointer → Type 0
IsClaimed c y = (is_claimed y ≡ true) × ((c.cell ≡ y) ⊎ ((c.leaf ≡ y) ⊎ (c.top ≡ y)))

-- the claimed blocks stand in the slot of the cell, and in the two above it
pub record ClaimsStand (c : Claims) (Y : Image) (at : Home) : Type 0 where
  pub agreed : agreed (files_in Y) at.inode ≡ true
  pub range : at.slot < slot_limit
  pub cell : is_claimed c.cell ≡ true → find Y at.inode (path_of at.slot) ≡ answer.Holds c.cell
  pub leaf : is_claimed c.leaf ≡ true → find Y at.inode (slot_above (path_of at.slot)) ≡ answer.Holds c.leaf
  pub top : is_claimed c.top ≡ true → find Y at.inode (slot_above (slot_above (path_of at.slot))) ≡ answer.Holds c.top

-- a slot that holds held the same before, or held nothing and has a claimed block
abbrev pub HeldMove : Claims → Image → Image → ℕ → Type 0
HeldMove c X Y j = (a : Path) (y : Pointer) → IsSlot a → agreed (files_in Y) j ≡ true → find Y j a ≡ answer.Holds y
    → ((agreed (files_in X) j ≡ true) × (find X j a ≡ answer.Holds y))
    ⊎ (IsClaimed c y × ((x : Pointer) → find X j a ≡ answer.Holds x → ⊥))

-- Only the inodes that a step touches need an argument.
abbrev pub LawHomesMove : Type 0
LawHomesMove = (W : World) (step : Step) (c : Claims) (s : ℕ) (touched : ℕ → Bool) (X Y : Image) → IsClaim W step c
    → Touches s touched X Y
    → ((j : ℕ) → agreed (files_in X) j ≡ true → OldPointers s X j)
    → ((at : Home) → cell_slot W.files step ≡ Some at → ClaimsStand c Y at)
    → ((j : ℕ) → touched j ≡ false → agreed (files_in Y) j ≡ true → agreed (files_in X) j ≡ true)
    → ((j : ℕ) → touched j ≡ true → HeldMove c X Y j)
    → HomesMove W.files step c X Y

-- a slot gets a block: on its path each block was there, or is claimed
abbrev pub LawGrow : Type 0
LawGrow = (c : Claims) (X Y : Image) (i : ℕ) (p : Path) (at : Path → Pointer) → agreed (files_in X) i ≡ true
    → ((a : Path) → IsAbove a p → find Y i a ≡ answer.Holds (at a))
    → ((a : Path) → IsSlot a → (IsAbove a p → ⊥) → find Y i a ≡ find X i a)
    → ((a : Path) → IsAbove a p
    → (find X i a ≡ answer.Holds (at a)) ⊎ (IsClaimed c (at a) × ((x : Pointer) → find X i a ≡ answer.Holds x → ⊥)))
    → HeldMove c X Y i

-- slots are cut off, or stay
abbrev pub LawShrink : Type 0
LawShrink = (c : Claims) (X Y : Image) (i : ℕ) (gone : Path → Bool) → agreed (files_in X) i ≡ true
    → ((a : Path) → IsSlot a → (gone a ≡ true → find Y i a ≡ answer.Hole) × (gone a ≡ false → find Y i a ≡ find X i a))
    → HeldMove c X Y i

-- a new inode has no blocks
abbrev pub LawBare : Type 0
LawBare = (c : Claims) (X Y : Image) (i : ℕ) → ((a : Path) → IsSlot a → find Y i a ≡ answer.Hole) → HeldMove c X Y i
