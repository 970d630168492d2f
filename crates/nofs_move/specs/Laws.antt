-- What a run of a move promises of a crash, wherever its entries stand in a history.
--
-- The premises are ones that a user can see: the replies to the steps of the command, and what other callers did
-- meanwhile.
use Rattle.std.specs.Prelude.{◌≡◌, ◌≢◌, ℕ, ◌<◌, ◌≤◌, ◌⊎◌, List, length, Some, slice_get}
use Rattle.nofs_dirent.specs.declared.entry.Entry.{Entry}
use Rattle.nofs_model.specs.Geometry.{Image}
use Rattle.nofs_model.specs.Files.{entry_at}
use Rattle.nofs_history.specs.Machine.{found, place_for, given_by}
use Rattle.nofs_history.specs.HistoryState.{HistoryState}
use Rattle.nofs_history.specs.Allowed.{IsAllowed}
use Rattle.nofs_history.specs.Steps.{Made}
use Rattle.nofs_history.specs.declared.machine.history.Entry1.{Entry1}
use Rattle.nofs_history.specs.declared.machine.steps.Step.{Step}
use Rattle.nofs_history.specs.declared.machine.steps.Step.TheVariants as step
use Rattle.nofs_client.specs.declared.task.commands.Command.TheVariants as command
use Rattle.nofs_client.specs.declared.task.commands.Path.{Path}
use Rattle.nofs_client.specs.Task.Places.{last_name}
use Rattle.nofs_crashlaw.specs.Runs.Bases.{IsHistory}
use Rattle.nofs_crashlaw.specs.Runs.Laws.{files_before}
use Rattle.nofs_crashlaw.specs.Paths.Names.{Finds}
use Rattle.nofs_crashlaw.specs.Paths.Moves.{KeepsEntry, named_entry, IsMove, DropIsLate}
use Rattle.nofs_move.specs.Own.{RunBy, place_in, end_in}
use Rattle.nofs_move.specs.Linked.{DropMade, LinkedSteps}

-- the entry e at place p is not one of the run's: another caller's, or one behind the end of the run
abbrev pub IsOther : ℕ → ℕ → ℕ → Entry1 → Type 0
IsOther c ended p e = (e.caller ≢ c) ⊎ (ended < p)

-- What other entries give leaves both names alone, up to the entry at `last`: from Look on, until Drop, the entry that
-- Look found, and from Link on the new one. (What an entry gives counts where it ended in WriteFault, too.)
pub record OthersKeepNames (B : Image) (H : List Entry1) (c : ℕ) (from to : Path) (made : List Made)
    (run : RunBy c (command.Move from to) made H)
    (s : LinkedSteps from to made) (last : ℕ) : Type 0 where
  pub old : (place : ℕ) (entry : Entry)
      → found (files_before B H (place_in c (command.Move from to) made H run s.look)) s.d (last_name from) ≡ Some place
      → entry_at (files_before B H (place_in c (command.Move from to) made H run s.look)) s.d place ≡ Some entry
      → (p : ℕ) (e : Entry1) → place_in c (command.Move from to) made H run s.look < p → p ≤ last
      → (DropMade made s.link s.second s.drop s.d s.dg (last_name from) s.i s.g
      → p < place_in c (command.Move from to) made H run s.drop)
      → slice_get H p ≡ Some e
      → IsOther c (end_in c (command.Move from to) made H run) p e
      → KeepsEntry (given_by (files_before B H p) e) s.d s.dg place entry
  pub new : (place : ℕ) → place_for (files_before B H (place_in c (command.Move from to) made H run s.link)) s.d2
      (last_name to) ≡ Some place
      → (p : ℕ) (e : Entry1)
      → place_in c (command.Move from to) made H run s.link < p → p ≤ last → slice_get H p ≡ Some e
      → IsOther c (end_in c (command.Move from to) made H run) p e
      → KeepsEntry (given_by (files_before B H p) e) s.d2 s.dg2 place (named_entry s.i s.g (last_name to))

-- the step is no Rename and no Drop of this name in this directory
abbrev pub LeavesName : Step → ℕ → List ℕ → Type 0
LeavesName (step.Rename d g old new) directory name = d ≡ directory → old ≡ name → ⊥
LeavesName (step.Drop d g dropped) directory name = d ≡ directory → dropped ≡ name → ⊥
LeavesName _ directory name = Unit {0}

-- The same by the steps alone: no other entry is a Rename or a Drop of the old name from Look on until Drop, and none
-- is one of the new name from Link on, up to the entry at `last`
pub record NamesLeft (H : List Entry1) (c : ℕ) (from to : Path) (made : List Made)
    (run : RunBy c (command.Move from to) made H)
    (s : LinkedSteps from to made) (last : ℕ) : Type 0 where
  pub old : (p : ℕ) (e : Entry1) → place_in c (command.Move from to) made H run s.look < p → p ≤ last
      → (DropMade made s.link s.second s.drop s.d s.dg (last_name from) s.i s.g
      → p < place_in c (command.Move from to) made H run s.drop)
      → slice_get H p ≡ Some e
      → IsOther c (end_in c (command.Move from to) made H run) p e → LeavesName e.step s.d (last_name from)
  pub new : (p : ℕ) (e : Entry1)
      → place_in c (command.Move from to) made H run s.link < p → p ≤ last → slice_get H p ≡ Some e
      → IsOther c (end_in c (command.Move from to) made H run) p e → LeavesName e.step s.d2 (last_name to)

-- Names that no other step renames or drops stay: whatever else the other callers do, they give no cell in which one is
-- changed.
abbrev pub LawNamesLeft : Type 0
LawNamesLeft = (B : Image) (H : HistoryState) (c : ℕ) (from to : Path) (made : List Made) → IsHistory B H
    → (run : RunBy c (command.Move from to) made H.entries) (s : LinkedSteps from to made)
    → (last : ℕ)
    → end_in c (command.Move from to) made H.entries run ≤ last → NamesLeft H.entries c from to made run s last
    → OthersKeepNames B H.entries c from to made run s last

-- the entries of such a run are a move of which the laws of paths speak, at the places where the history has them
pub record MoveAt (B : Image) (H : List Entry1) (c : ℕ) (from to : Path) (made : List Made)
    (run : RunBy c (command.Move from to) made H)
    (s : LinkedSteps from to made) (last : ℕ) : Type 0 where
  pub move : IsMove B H s.d s.dg (last_name from) s.d2 s.dg2 (last_name to) s.i s.g
  pub look_is : move.look ≡ place_in c (command.Move from to) made H run s.look
  pub flush_is : move.flush ≡ place_in c (command.Move from to) made H run s.flush
  pub link_is : move.link ≡ place_in c (command.Move from to) made H run s.link
  pub last_is : move.last ≡ last
  pub late : DropIsLate H move.link move.drop move.last s.d s.dg (last_name from)

-- Where the two names are left alone, they are one.
abbrev pub LawIsMove : Type 0
LawIsMove = (B : Image) (H : HistoryState) (c : ℕ) (from to : Path) (made : List Made) → IsHistory B H
    → (run : RunBy c (command.Move from to) made H.entries) (s : LinkedSteps from to made)
    → (last : ℕ) → end_in c (command.Move from to) made H.entries run ≤ last → last < length H.entries
    → OthersKeepNames B H.entries c from to made run s last
    → MoveAt B H.entries c from to made run s last

-- Then from the end of the first flush on, to the end of the entry at `last`, every image that a crash may leave has
-- the file under its old name or under its new one.
abbrev pub LawOneName : Type 0
LawOneName = (B : Image) (H : HistoryState) (c : ℕ) (from to : Path) (made : List Made) → IsHistory B H
    → (run : RunBy c (command.Move from to) made H.entries) (s : LinkedSteps from to made)
    → (last : ℕ)
    → end_in c (command.Move from to) made H.entries run ≤ last → OthersKeepNames B H.entries c from to made run s last
    → (flush e : Entry1) → slice_get H.entries (place_in c (command.Move from to) made H.entries run s.flush)
    ≡ Some flush → slice_get H.entries last ≡ Some e
    → (m : ℕ) → flush.to ≤ m → m ≤ e.to → (X : Image) → IsAllowed B H.entries m X
    → Finds X s.d s.dg (last_name from) s.i s.g ⊎ Finds X s.d2 s.dg2 (last_name to) s.i s.g

-- And where the second flush succeeded and Drop came, from the end of that flush on it has the file under its new name.
abbrev pub LawNewName : Type 0
LawNewName = (B : Image) (H : HistoryState) (c : ℕ) (from to : Path) (made : List Made) → IsHistory B H
    → (run : RunBy c (command.Move from to) made H.entries) (s : LinkedSteps from to made)
    → DropMade made s.link s.second s.drop s.d s.dg (last_name from) s.i s.g
    → (last : ℕ)
    → end_in c (command.Move from to) made H.entries run ≤ last → OthersKeepNames B H.entries c from to made run s last
    → (flush e : Entry1) → slice_get H.entries (place_in c (command.Move from to) made H.entries run s.second)
    ≡ Some flush → slice_get H.entries last ≡ Some e
    → (m : ℕ) → flush.to ≤ m → m ≤ e.to → (X : Image) → IsAllowed B H.entries m X
    → Finds X s.d2 s.dg2 (last_name to) s.i s.g
