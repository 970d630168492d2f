-- What a run of the machine keeps, whatever its entries.
use Rattle.std.specs.Prelude.{◌≡◌, ℕ, suc, ◌≤◌, true, List, length, take, Some, slice_get}
use Rattle.nofs_inode.specs.declared.inode.BackLink.{BackLink}
use Rattle.nofs_model.specs.Geometry.{Image}
use Rattle.nofs_model.specs.Files.{Files, FileState, Agreed, is_pair}
use Rattle.nofs_history.specs.Machine.{found}
use Rattle.nofs_history.specs.Since.{agreed_files, files_along}
use Rattle.nofs_history.specs.HistoryState.{HistoryState}
use Rattle.nofs_history.specs.declared.machine.history.Entry1.{Entry1}
use Rattle.nofs_history.specs.declared.machine.steps.Step.TheVariants as step
use Rattle.nofs_crashlaw.specs.Runs.Bases.{IsHistory}
use Rattle.nofs_crashlaw.specs.Runs.Pairs.{is_drop, Filled, HasAt, IsDirectory}

-- the machine's files before the entry at place p
abbrev pub files_before : Image → List Entry1 → ℕ → Files
files_before B H p = files_along (agreed_files B) (take p H)

-- place b of the file (i, g) has this back link, which is a pair: the entry to which it leads names (i, g)
pub record HasPair (F : Files) (i g b : ℕ) (link : BackLink) : Type 0 where
  pub file : FileState
  pub is : F i ≡ Some file
  pub generation : file.generation ≡ g
  pub at : HasAt file.links b link
  pub pair : is_pair F i link ≡ true

-- A directory stays one, of its generation, over each entry but a Drop, and where an entry in it is half of a pair,
-- over a Drop too.
abbrev pub LawDirectory : Type 0
LawDirectory = (B : Image) (H : HistoryState) (p : ℕ) (e : Entry1) → IsHistory B H
    → slice_get H.entries p ≡ Some e → (d g : ℕ)
    → IsDirectory (files_before B H.entries p) d g
    → (is_drop e.step ≡ true → Filled (files_before B H.entries p) d)
    → IsDirectory (files_before B H.entries (suc p)) d g

-- Each directory has a chain of names from the root, before each entry and after the last.
abbrev pub LawRooted : Type 0
LawRooted = (B : Image) (H : HistoryState) (p : ℕ) → IsHistory B H → p ≤ length H.entries
    → (d g : ℕ) → IsDirectory (files_before B H.entries p) d g
    → Agreed (files_before B H.entries p) d

-- A back link that is a pair keeps its place, and stays a pair, over each entry but a Drop of the entry to which it
-- leads.
abbrev pub LawPair : Type 0
LawPair = (B : Image) (H : HistoryState) (p : ℕ) (e : Entry1) → IsHistory B H → slice_get H.entries p ≡ Some e
    → (i g b : ℕ) (link : BackLink)
    → HasPair (files_before B H.entries p) i g b link
    → ((of : ℕ) (name : List ℕ) → e.step ≡ step.Drop link.directory of name
    → found (files_before B H.entries p) link.directory name ≡ Some link.entry → ⊥)
    → HasPair (files_before B H.entries (suc p)) i g b link
