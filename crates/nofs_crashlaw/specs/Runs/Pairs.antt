-- A directory, the pairs in it, and the place of a back link, in the machine's files.
use Rattle.std.specs.Prelude.{◌≡◌, ℕ, zero, suc, ◌<◌, Bool, true, false, List, [], ◌∷◌, Some}
use Rattle.nofs_dirent.specs.Entries.{entry_limit}
use Rattle.nofs_inode.specs.declared.inode.BackLink.{BackLink}
use Rattle.nofs_model.specs.Files.{Files, FileState, is_folder}
use Rattle.nofs_history.specs.Machine.{is_paired}
use Rattle.nofs_history.specs.declared.machine.steps.Step.{Step}
use Rattle.nofs_history.specs.declared.machine.steps.Step.TheVariants as step

-- a directory of this generation
pub record IsDirectory (F : Files) (d g : ℕ) : Type 0 where
  pub file : FileState
  pub is : F d ≡ Some file
  pub generation : file.generation ≡ g
  pub folder : is_folder file.kind ≡ true

-- a directory in which some entry is the other half of a back link
abbrev pub Filled : Files → ℕ → Type 0
Filled F j = (n : ℕ) × (n < entry_limit) × (is_paired F j n ≡ true)

-- whether a step is a Drop
abbrev pub is_drop : Step → Bool
is_drop (step.Drop d g name) = true
is_drop _ = false

-- place b of these links has this one
abbrev pub HasAt : List BackLink → ℕ → BackLink → Type 0
HasAt [] b link = ⊥
HasAt (l ∷ ls) zero link = l ≡ link
HasAt (l ∷ ls) (suc b) link = HasAt ls b link
