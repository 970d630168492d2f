-- The sweepers and the flusher, which work beside others.
use Rattle.std.specs.Prelude.{◌≡◌, ◌≢◌, ℕ, ◌+◌, ◌-◌, ◌≤◌, Bool, true, false, List, [], Some, length, drop}
use Rattle.nofs_turn.specs.declared.rule.view.View.{View}
use Rattle.nofs_history.specs.declared.machine.callers.TheConstants.{BLOCK_SWEEPER, INODE_SWEEPER}
use Rattle.nofs_history.specs.Callers.{steps_by}
use Rattle.nofs_history.specs.Steps.{Made}
use Rattle.nofs_history.specs.declared.machine.history.Entry1.{Entry1}
use Rattle.nofs_history.specs.declared.machine.steps.ElementKind.{ElementKind}
use Rattle.nofs_history.specs.declared.machine.steps.ElementKind.TheVariants.{Inode, Block}
use Rattle.nofs_shared.specs.Acts.Sees.{sweep_entries}
use Rattle.nofs_shared.specs.Passes.Entries.{own_steps}
use Rattle.nofs_shared.specs.Passes.Rooms.{LacksRoom}
use Rattle.nofs_shared.specs.Passes.Seats.{SameSeat}
use Rattle.nofs_workers.specs.Sweep.{Sweeps}
use Rattle.nofs_serve.specs.Teams.Joins.{Gathers, made_by}

-- The sweeps by the steps that each caller made: one step for each element, the inodes upwards and the blocks
-- downwards. Where memory was wanting they may end early
pub record SweepsMade (inodes blocks : ℕ) (short : Bool) (by : ℕ → List Made) : Type 0 where
  pub inodes_seen : Sweeps (λ place item. item ≡ place) Inode 0 inodes short [] (by INODE_SWEEPER)
  pub blocks_seen : Sweeps (λ place item. item ≡ blocks - 1 - place) Block 0 blocks short [] (by BLOCK_SWEEPER)

-- where room was taken for an entry of each element, no sweep ended early
abbrev pub SweepsServed : ℕ → ℕ → ℕ → List Entry1 → List Entry1 → Type 0
SweepsServed room inodes blocks H K = sweep_entries H + inodes + blocks ≤ room
    → SweepsMade inodes blocks false (λ c. steps_by c (drop (length H) K))

module _ {F : Type 0} where
  -- a sweeper whose pass began as v has worked, and w is its pass
  pub record HasSwept (room : F → ℕ) (Item : ℕ → ℕ → Type 0) (kind : ElementKind) (count : ℕ) (short : Bool)
      (caller : ℕ) (v w : View Entry1 F) : Type 0 where
    pub seat : SameSeat v w
    pub made : Sweeps Item kind 0 count short [] (own_steps w.mine)
    pub lacks : short ≡ true → LacksRoom room caller w

  -- a worker that makes no step has worked
  pub record HasIdled (v w : View Entry1 F) : Type 0 where
    pub seat : SameSeat v w
    pub none : own_steps w.mine ≡ []

  -- what a pass has seen are all the entries of the sweeps for which room was taken
  abbrev pub HasNoRoom : (F → ℕ) → View Entry1 F → Type 0
  HasNoRoom room u = (f : F) × (u.fixed ≡ Some f) × (room f ≤ sweep_entries u.seen)

  -- their passes in one
  pub record BesideGathered (room : F → ℕ) (inodes blocks : ℕ) (short : Bool) (v u : View Entry1 F) : Type 0 where
    pub gathers : Gathers v u 3
    pub made : SweepsMade inodes blocks short (λ c. made_by c u)
    pub lacks : short ≡ true → HasNoRoom room u
    pub others : (c : ℕ) → c ≢ INODE_SWEEPER → c ≢ BLOCK_SWEEPER → made_by c u ≡ []
