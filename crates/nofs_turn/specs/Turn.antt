-- Which passes are those of a turn, and what they know.
use Rattle.std.specs.Prelude.{◌≡◌, ℕ, List}
use Rattle.nofs_turn.specs.declared.rule.kept.Kept.{Ghosts}
use Rattle.nofs_turn.specs.declared.rule.view.View.{View}
use Rattle.nofs_turn.specs.declared.turn.Turn.{Turn}
use Rattle.nofs_turn.specs.declared.turn.Pass.{Pass}
use Rattle.nofs_turn.specs.Rule.Views.{fresh}

-- the value over which the turn was made, as it was then
abbrev pub made_over : {V E F : Type 0} → Turn V E F → V
made_over t = t.table.shared.key.value.value

module _ {V E F : Type 0} {g : Ghosts V E F} where
  -- what a pass knows
  abbrev pub view_of : Pass V E F g → View E F
  view_of p = p.seat.me.0

  abbrev pub IsPassOf : Turn V E F → Pass V E F g → Type 0
  IsPassOf t p = (p.seat.table_id ≡ t.table.shared.table_id) × (p.seat.me.0.seats ≡ t.seats)

  -- a pass of a turn that was made over this value, with so many seats
  abbrev pub IsFreshPass : (V → List E) → (V → F) → Turn V E F → V → ℕ → Pass V E F g → Type 0
  IsFreshPass entries fixed t value seats p = IsPassOf t p × (view_of p ≡ fresh (fixed value) (entries value) seats)
