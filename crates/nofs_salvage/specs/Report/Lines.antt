-- What the lines of a directory tell, and the handles of a list of directories.
use Rattle.std.specs.Prelude.{◌≡◌, ℕ, ◌⊎◌, true, false, List, [], ◌∷◌, ◌++◌, All, IsTrue}
use Rattle.nofs_dirent.specs.Names.{is_name}
use Rattle.nofs_model.specs.Files.{Files, is_folder}
use Rattle.nofs_history.specs.declared.machine.replies.NameLine.{NameLine}
use Rattle.nofs_salvage.specs.declared.report.answers.NextSlot.{NextSlot}
use Rattle.nofs_salvage.specs.declared.report.answers.NextSlot.TheVariants as listed
use Rattle.nofs_salvage.specs.declared.report.tree.Tree.{Tree}
use Rattle.nofs_salvage.specs.Report.Inodes.{root_handle}
use Rattle.nofs_salvage.specs.Report.Losses.{is_doubled}
use Rattle.nofs_salvage.specs.Walk.Refusals.{is_there, MayAsk, LeadsTo}
use Rattle.nofs_salvage.specs.Walk.Answers.{IsInFolder}
use Rattle.nofs_salvage.specs.Report.InHand.{handles_in}

-- a line of directory d that is neither dead nor doubled leads to what it says
abbrev pub IsTold : Files → ℕ → List NameLine → NameLine → Type 0
IsTold F d earlier line =
    line.dead ≡ false → is_doubled earlier line.name ≡ false → LeadsTo F d line.name (is_folder line.kind)

-- each of these lines does, behind earlier ones
abbrev pub AreTold : Files → ℕ → List NameLine → List NameLine → Type 0
AreTold F d earlier lines = (before after : List NameLine) (line : NameLine)
    → lines ≡ before ++ line ∷ after → IsTold F d (earlier ++ before) line

-- the names of a list are names
abbrev pub AreNames : NextSlot → Type 0
AreNames (listed.Names l names) = All (λ line. IsTrue (is_name line.name)) names
AreNames (listed.LostNames l) = Unit {0}
AreNames listed.NoMore = Unit {0}

-- what a list gives is a part of a directory
pub record IsFolderPart (listed : NextSlot) : Type 0 where
  -- a slot that directories have, if any
  pub below : IsInFolder listed
  -- and its names are names
  pub names : AreNames listed

-- The handles of a list of directories

-- all are directories
abbrev pub AreFolders : Files → Tree → Type 0
AreFolders F tree = All (MayAsk F true) (handles_in tree)

-- the first n directories of the list were gone through: the root was there, if there was any
abbrev pub IsRooted : Files → ℕ → Tree → Type 0
IsRooted F n tree = ((n ≡ 0) × (handles_in tree ≡ root_handle ∷ [])) ⊎ (is_there F 1 1 ≡ true)
