-- What a part of a walk has noted where it ends well: the steps that were made grew from `made` to `new_made`, and the
-- findings from old to new. What it says of a world W holds where these steps were answered in W, while no file
-- changed.
use Rattle.std.specs.Prelude.{◌≡◌, ℕ, ◌<◌, ◌≤◌, Bool, true, List, ◌++◌}
use Rattle.nofs_history.specs.World.{World}
use Rattle.nofs_history.specs.Steps.{Made}
use Rattle.nofs_history.specs.declared.machine.replies.NameLine.{NameLine}
use Rattle.nofs_salvage.specs.declared.report.answers.InodeHandle.{InodeHandle}
use Rattle.nofs_salvage.specs.declared.report.report.Loss.{Loss}
use Rattle.nofs_salvage.specs.declared.report.findings.Findings.{Findings}
use Rattle.nofs_salvage.specs.declared.report.seen.SeenNames.{SeenNames}
use Rattle.nofs_salvage.specs.Report.Losses.{lines_losses, lines_folders, losses_below, folders_below, tree_of}
use Rattle.nofs_salvage.specs.Report.Losses.{tree_losses}
use Rattle.nofs_salvage.specs.Walk.Answers.{AreAnswered}
use Rattle.nofs_salvage.specs.Report.Trees.{AreSeen, AddsFindings, IsWalked}
use Rattle.nofs_salvage.specs.Walk.Refusals.{is_there}
use Rattle.nofs_salvage.specs.Report.Lines.{AreTold, AreFolders}
use Rattle.nofs_salvage.specs.Walk.Asks.{Asks, HasReached, AreGiven, AreReached}

-- these lines of directory `at`, behind earlier ones of it
pub record LinesNoted (picks : List ℕ → Bool) (at : InodeHandle) (lines : List NameLine) (made new_made : List Made)
    (old new : Findings)
    (seen new_seen : SeenNames) : Type 0 where
  -- their names were met
  pub names : (earlier : List NameLine) → AreSeen seen earlier → AreSeen new_seen (earlier ++ lines)
  -- their losses and the directories that they name were added
  pub noted : (W : World) (earlier : List NameLine) → AreSeen seen earlier → AreAnswered W made new_made
      → AddsFindings (lines_losses W picks at.inode earlier lines)
      (lines_folders W.files at.inode earlier lines) old new
  -- where the lines lead to what they say, and all on the old list are directories, all on the new one are
  pub folders : (W : World) (earlier : List NameLine) → AreSeen seen earlier → AreAnswered W made new_made
      → AreTold W.files at.inode earlier lines → AreFolders W.files old.tree → AreFolders W.files new.tree
  -- where the lines were given, and all on the old list reached, all on the new one were
  pub met : (first : List Made) → Asks first made → AreGiven first made at lines → AreReached first made old.tree
      → AreReached first new_made new.tree

-- the slots of directory `at` from a slot up to the next one, behind those below it
pub record SlotsNoted (picks : List ℕ → Bool) (at : InodeHandle) (slot next : ℕ) (made new_made : List Made)
    (old new : Findings)
    (seen new_seen : SeenNames) : Type 0 where
  -- the next one lies behind it, at most at the end of the directory
  pub later : (slot < next) × (next ≤ 72)
  -- their losses and the directories that they name were added
  pub walked : (W : World) (start : Findings) → IsWalked W picks at.inode slot start old seen
      → AreAnswered W made new_made
      → IsWalked W picks at.inode next start new new_seen
  -- the directory is there with its generation
  pub there : (W : World) → AreAnswered W made new_made → is_there W.files at.inode at.generation ≡ true
  -- where all on the old list are directories, all on the new one are
  pub folders : (W : World) (start : Findings) → IsWalked W picks at.inode slot start old seen
      → AreAnswered W made new_made
      → AreFolders W.files old.tree → AreFolders W.files new.tree
  -- where the directory was reached, and all on the old list, all on the new one were
  pub met : (first : List Made) → Asks first made → HasReached first made at → AreReached first made old.tree
      → AreReached first new_made new.tree

-- directory `at`
pub record FolderNoted (picks : List ℕ → Bool) (at : InodeHandle) (made new_made : List Made)
    (old new : Findings) : Type 0 where
  -- its losses and the directories that it names were added
  pub noted : (W : World) → AreAnswered W made new_made
      → AddsFindings (losses_below W picks at.inode 72) (folders_below W.files at.inode 72) old new
  -- it is there with its generation
  pub there : (W : World) → AreAnswered W made new_made → is_there W.files at.inode at.generation ≡ true
  -- where all on the old list are directories, all on the new one are
  pub folders : (W : World) → AreAnswered W made new_made → AreFolders W.files old.tree → AreFolders W.files new.tree
  -- where it was reached, and all on the old list, all on the new one were
  pub met : (first : List Made) → Asks first made → HasReached first made at → AreReached first made old.tree
      → AreReached first new_made new.tree

-- all directories, from the root on
pub record TreeNoted (picks : List ℕ → Bool) (made new_made : List Made) (old new : List Loss) : Type 0 where
  -- their losses were added
  pub noted : (W : World) → AreAnswered W made new_made → new ≡ old ++ tree_losses W picks (tree_of W.files)
  -- the root is there with its generation
  pub there : (W : World) → AreAnswered W made new_made → is_there W.files 1 1 ≡ true
