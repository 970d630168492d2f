-- What a visitor, the sweepers and the flusher leave.
use Rattle.std.specs.Prelude.{◌≡◌, ◌≢◌, ℕ, ◌-◌, Bool, true, List, [], length, drop}
use mathlib.Core.List.{IsPrefix}
use Rattle.nofs_turn.specs.declared.rule.view.View.{View}
use Rattle.nofs_history.specs.declared.machine.callers.TheConstants.{BLOCK_SWEEPER, FIRST_USER, INODE_SWEEPER}
use Rattle.nofs_history.specs.Steps.{Made}
use Rattle.nofs_history.specs.declared.machine.history.Entry1.{Entry1}
use Rattle.nofs_history.specs.declared.machine.steps.ElementKind.TheVariants.{Inode, Block}
use Rattle.nofs_history.specs.Callers.{steps_by}
use Rattle.nofs_workers.specs.Sweep.{Sweeps}
use Rattle.nofs_serve.specs.Teams.Beside.{HasNoRoom}
use Rattle.nofs_serve.specs.Teams.Joins.{Gathers, made_by}

-- The steps that each caller made: caller 1's are those of the visit, and those of the sweeps are one for each element,
-- the inodes upwards and the blocks downwards. Where memory was wanting the sweeps may end early
pub record VisitMade (Visits : List Made → Type 0) (inodes blocks : ℕ) (short : Bool)
    (by : ℕ → List Made) : Type 0 where
  pub visited : Visits (by FIRST_USER)
  pub inodes_seen : Sweeps (λ place item. item ≡ place) Inode 0 inodes short [] (by INODE_SWEEPER)
  pub blocks_seen : Sweeps (λ place item. item ≡ blocks - 1 - place) Block 0 blocks short [] (by BLOCK_SWEEPER)
  pub others : (c : ℕ) → c ≢ FIRST_USER → c ≢ INODE_SWEEPER → c ≢ BLOCK_SWEEPER → by c ≡ []

-- the passes of a visit in one
pub record VisitGathered {
    F : Type 0
    } (room : F → ℕ) (Visits : List Made → Type 0) (inodes blocks : ℕ) (short : Bool) (v u : View Entry1 F)
    : Type 0 where
  pub gathers : Gathers v u 4
  pub made : VisitMade Visits inodes blocks short (λ c. made_by c u)
  pub lacks : short ≡ true → HasNoRoom room u

-- what a visit added to a history
pub record VisitServed (Visits : List Made → Type 0) (inodes blocks : ℕ) (short : Bool)
    (H K : List Entry1) : Type 0 where
  pub grown : IsPrefix H K
  pub made : VisitMade Visits inodes blocks short (λ c. steps_by c (drop (length H) K))
