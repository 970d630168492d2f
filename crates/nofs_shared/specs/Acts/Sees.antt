-- The steps that examine an element, and those of the sweeps.
use Rattle.std.specs.Prelude.{◌≡◌, ℕ, ◌-◌, ◌<◌, ◌==◌, Bool, true, false, ◌&&◌, ◌||◌, List, count_by}
use Rattle.nofs_history.specs.declared.machine.callers.TheConstants.{BLOCK_SWEEPER, INODE_SWEEPER}
use Rattle.nofs_history.specs.Steps.{is_out_of_memory}
use Rattle.nofs_history.specs.declared.machine.history.Entry1.{Entry1}
use Rattle.nofs_history.specs.declared.machine.replies.Reply.{Reply}
use Rattle.nofs_history.specs.declared.machine.steps.Step.{Step}
use Rattle.nofs_history.specs.declared.machine.steps.Step.TheVariants as step

-- a step that examines an element
abbrev pub is_see : Step → Bool
is_see (step.SeeInode _) = true
is_see (step.SeeBlock _) = true
is_see _ = false

-- the caller of a sweep
abbrev pub is_sweeper : ℕ → Bool
is_sweeper caller = (caller == INODE_SWEEPER) || (caller == BLOCK_SWEEPER)

-- a step of a sweep, for whose entry the mount keeps memory
abbrev pub is_of_sweep : ℕ → Step → Bool
is_of_sweep caller s = is_sweeper caller && is_see s

-- how many entries are of the sweeps
abbrev pub sweep_entries : List Entry1 → ℕ
sweep_entries H = count_by (λ e. is_of_sweep e.caller e.step) H

-- while fewer entries of the sweeps were made than memory was taken for, a step of theirs wants for none
abbrev pub FindsRoom : ℕ → ℕ → Step → List Entry1 → Reply → Type 0
FindsRoom room caller s H r = is_of_sweep caller s ≡ true → sweep_entries H < room → is_out_of_memory r ≡ false

-- what a step with this reply takes of the memory that the mount keeps for the entries of the sweeps
pub record TakesKept (caller : ℕ) (s : Step) (r : Reply) (kept left : ℕ) : Type 0 where
  -- a step of theirs wants for none while some is kept, and takes that of one entry
  pub sweeps : is_of_sweep caller s ≡ true → 0 < kept → (is_out_of_memory r ≡ false) × (left ≡ kept - 1)
  -- any other step takes none of it
  pub others : is_of_sweep caller s ≡ false → left ≡ kept
