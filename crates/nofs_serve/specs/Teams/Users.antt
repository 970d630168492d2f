-- Users at work at one mount, each with a caller of its own.
use Rattle.std.specs.Prelude.{◌≡◌, ℕ, ◌+◌, Bool, false, List, [], ◌∷◌, ◌++◌}
use Rattle.nofs_history.specs.Steps.{Made}
use Rattle.nofs_client.specs.declared.task.commands.Command.{Command}
use Rattle.nofs_client.specs.declared.task.lines.Line.{Line}
use Rattle.nofs_client.specs.Driver.{IsDriven, IsPartlyDriven}
use Rattle.nofs_workers.specs.declared.user.UserWorker.{UserWorker}
use Rattle.nofs_workers.specs.User.{steps_in}

module _ {W : Type 0} where
  -- the workers of the users from caller c on, the first user's last
  abbrev pub StandInTurn : (ℕ → List Command → W → Type 0) → ℕ → List (List Command) → List W → Type 0
  StandInTurn P c [] ws = ws ≡ []
  StandInTurn P c (script ∷ scripts) ws = (front : List W) × (w : W) × (ws ≡ front ++ w ∷ []) × P c script w
      × StandInTurn P (c + 1) scripts front

  pub record Stand (P : ℕ → List Command → W → Type 0) (c : ℕ) (scripts : List (List Command))
      (ws : List W) : Type 0 where
    pub in_turn : StandInTurn P c scripts ws

module _ {S T : Type 0} where
  -- a user that has made no step, whose way to the mount is a new one
  pub record IsReady (New : ℕ → S → Type 0) (c : ℕ) (script : List Command) (w : UserWorker S T) : Type 0 where
    pub new : New c (steps_in w)
    pub script_is : w.script.commands ≡ script
    pub no_lines : w.lines ≡ []

  -- a user that has made the steps of its commands, and where memory was wanting those of the first of them
  pub record HasRun (Back : ℕ → S → Type 0) (made : S → List Made) (c : ℕ) (script : List Command)
      (w : UserWorker S T) : Type 0 where
    pub back : Back c (steps_in w)
    pub some : IsPartlyDriven script (made (steps_in w)) w.lines
    pub all : w.out_of_memory ≡ false → IsDriven script (made (steps_in w)) w.lines

-- the first commands of each user from caller c on were run, by the steps that each caller made
abbrev pub UsersBegun : ℕ → List (List Command) → (ℕ → List Made) → Type 0
UsersBegun c [] by = Unit {0}
UsersBegun c (script ∷ scripts) by = ((lines : List Line) × IsPartlyDriven script (by c) lines)
    × UsersBegun (c + 1) scripts by

-- each user's commands were all run, to these lines
abbrev pub UsersServed : ℕ → List (List Command) → List (List Line) → (ℕ → List Made) → Type 0
UsersServed c [] lines by = lines ≡ []
UsersServed c (script ∷ scripts) lines by =
    (said : List Line) × (others : List (List Line)) × (lines ≡ said ∷ others) × IsDriven script (by c) said
    × UsersServed (c + 1) scripts others by

-- each user ended by a flag of its own: where it did not end early its commands were all run, else the first of them
abbrev pub UsersEnded : ℕ → List (List Command) → List Bool → List (List Line) → (ℕ → List Made) → Type 0
UsersEnded c [] early lines by = (early ≡ []) × (lines ≡ [])
UsersEnded c (script ∷ scripts) early lines by =
    (cut : Bool) × (cuts : List Bool) × (said : List Line) × (others : List (List Line))
    × (early ≡ cut ∷ cuts) × (lines ≡ said ∷ others) × IsPartlyDriven script (by c) said
    × (cut ≡ false → IsDriven script (by c) said) × UsersEnded (c + 1) scripts cuts others by
