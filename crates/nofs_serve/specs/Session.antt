-- What a team of users, sweepers and a flusher leaves.
use Rattle.std.specs.Prelude.{◌≡◌, ◌≢◌, ◌⊎◌, ℕ, ◌+◌, ◌-◌, ◌<◌, Bool, true, false, List, [], length, drop}
use mathlib.Core.List.{IsPrefix}
use Rattle.nofs_turn.specs.declared.rule.view.View.{View}
use Rattle.nofs_history.specs.declared.machine.callers.TheConstants.{BLOCK_SWEEPER, INODE_SWEEPER}
use Rattle.nofs_history.specs.Steps.{Made}
use Rattle.nofs_history.specs.declared.machine.history.Entry1.{Entry1}
use Rattle.nofs_history.specs.declared.machine.steps.ElementKind.TheVariants.{Inode, Block}
use Rattle.nofs_history.specs.Callers.{steps_by}
use Rattle.nofs_client.specs.declared.task.commands.Command.{Command}
use Rattle.nofs_client.specs.declared.task.lines.Line.{Line}
use Rattle.nofs_workers.specs.Sweep.{Sweeps}
use Rattle.nofs_serve.specs.Teams.Beside.{HasNoRoom, SweepsMade, SweepsServed}
use Rattle.nofs_serve.specs.Teams.Joins.{Gathers, made_by}
use Rattle.nofs_serve.specs.Teams.Users.{UsersBegun, UsersEnded, UsersServed}

-- no user of so many has this number, nor a sweep: so it is with the flusher's
abbrev pub IsNobody : ℕ → ℕ → Type 0
IsNobody users c = (c ≢ INODE_SWEEPER) × (c ≢ BLOCK_SWEEPER) × ((c ≡ 0) ⊎ (users < c))

-- The steps that each caller made: a user's are just those that its commands ask for, in order, and those of the sweeps
-- are one for each element, the inodes upwards and the blocks downwards. Where memory was wanting they may end early
pub record TeamMade (scripts : List (List Command)) (inodes blocks : ℕ) (short : Bool) (lines : List (List Line))
    (by : ℕ → List Made) : Type 0 where
  pub begun : UsersBegun 1 scripts by
  pub served : short ≡ false → UsersServed 1 scripts lines by
  pub inodes_seen : Sweeps (λ place item. item ≡ place) Inode 0 inodes short [] (by INODE_SWEEPER)
  pub blocks_seen : Sweeps (λ place item. item ≡ blocks - 1 - place) Block 0 blocks short [] (by BLOCK_SWEEPER)
  pub others : (c : ℕ) → IsNobody (length scripts) c → by c ≡ []

-- the passes of a team in one
pub record TeamGathered {
    F : Type 0
    } (room : F → ℕ) (scripts : List (List Command)) (inodes blocks : ℕ) (short : Bool) (early : List Bool)
    (lines : List (List Line)) (v u : View Entry1 F)
    : Type 0 where
  pub gathers : Gathers v u (length scripts + 3)
  pub made : TeamMade scripts inodes blocks short lines (λ c. made_by c u)
  pub users : UsersEnded 1 scripts early lines (λ c. made_by c u)
  pub swept : Bool
  pub sweeps : SweepsMade inodes blocks swept (λ c. made_by c u)
  pub lacks : swept ≡ true → HasNoRoom room u

-- what a team added to a history
pub record TeamServed (scripts : List (List Command)) (inodes blocks : ℕ) (short : Bool) (lines : List (List Line))
    (H K : List Entry1) : Type 0 where
  pub grown : IsPrefix H K
  pub made : TeamMade scripts inodes blocks short lines (λ c. steps_by c (drop (length H) K))

-- how a team ended: each user by a flag of its own, and the sweeps whole where room was taken for them
pub record TeamEnded (scripts : List (List Command)) (room inodes blocks : ℕ) (early : List Bool)
    (lines : List (List Line)) (H K : List Entry1) : Type 0 where
  pub users : UsersEnded 1 scripts early lines (λ c. steps_by c (drop (length H) K))
  pub sweeps : SweepsServed room inodes blocks H K

-- nobody was served, since memory was wanting before the first step
pub record IsUnserved (short : Bool) (early : List Bool) (lines : List (List Line)) (H K : List Entry1) : Type 0 where
  pub wants : short ≡ true
  pub no_user : (early ≡ []) × (lines ≡ [])
  pub stays : K ≡ H

-- so far of the users: those of `scripts` were joined to the pass that was v before
pub record UsersGathered {
    F : Type 0
    } (scripts : List (List Command)) (was short : Bool) (early : List Bool) (lines : List (List Line))
    (v u : View Entry1 F) : Type 0 where
  pub knew : IsPrefix v.seen u.seen
  pub each : UsersEnded 1 scripts early lines (λ c. made_by c u)
  pub begun : UsersBegun 1 scripts (λ c. made_by c u)
  pub served : short ≡ false → UsersServed 1 scripts lines (λ c. made_by c u)
  pub was_short : short ≡ false → was ≡ false
  pub others : (c : ℕ) → (c ≡ 0) ⊎ (length scripts < c) → made_by c u ≡ made_by c v
