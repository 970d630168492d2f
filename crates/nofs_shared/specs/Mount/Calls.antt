-- The calls of a mount that write or flush, one entry after another.
use Rattle.std.specs.Prelude.{◌≡◌, ℕ, List, [], ◌∷◌}
use Rattle.nofs_disk.specs.Disk.{DiskState, IsSameDisk, KeepsCells}
use Rattle.nofs_model.specs.Files.{Files}
use Rattle.nofs_history.specs.declared.machine.history.Entry1.{Entry1}
use Rattle.nofs_state.specs.Cores.Steps.{NoOrder}

-- nothing was written and nothing flushed: so it is over looks, commits and write-outs
pub record Rests (old new : DiskState) : Type 0 where
  pub disk : IsSameDisk old new
  pub cells : KeepsCells old new

-- how many cells the machine asks for is said of the counts; here no files are named
abbrev pub NoFiles : Files → Type 0
NoFiles F = ⊥

module _ {D : Type 0} (state : D → DiskState) where
  -- THE CALLS THEMSELVES. From one state of the device to another it made those of these entries in their order, and no
  -- other. Over a device that tells, those of an entry are writes alone, one a cell of its step, or where the step is a
  -- Flush one flush alone
  abbrev pub CallsAlong : D → List Entry1 → D → Type 0
  CallsAlong begun [] last = Rests (state begun) (state last)
  CallsAlong begun (e ∷ es) last = (old new : D) × Rests (state begun) (state old)
      × NoOrder (state old) (state new) NoFiles e.step e.claims e.reply × CallsAlong new es last

  -- so it did from the moment on at which the history starts
  abbrev pub MadeCalls : ℕ → List Entry1 → D → Type 0
  MadeCalls start H last = (begun : D) × ((state begun).moment ≡ start) × CallsAlong begun H last
