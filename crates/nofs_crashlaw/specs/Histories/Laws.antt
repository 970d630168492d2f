-- The laws of steps, of later entries, of the rest and of names.
use Rattle.std.specs.Prelude.{◌≡◌, ℕ, ◌<◌, ◌≤◌, Bool, true, false, List, [], ◌∷◌, ◌++◌, length, None, is_some}
use Rattle.nofs_disk.specs.Disk.{Picks, cell_at}
use Rattle.nofs_crashlaw.specs.Untouched.Frames.{Touches, OldPointers}
use Rattle.nofs_crashlaw.specs.Images.Reasons.{IsMark}
use Rattle.nofs_crashlaw.specs.Images.Moments.{during, AllExplained, OnlyProper}
use Rattle.nofs_history.specs.declared.machine.history.Entry1.{Entry1}
use Rattle.nofs_history.specs.Machine.{given_by}
use Rattle.nofs_history.specs.Since.{agreed_files, files_along, mark, is_flushed}
use Rattle.nofs_history.specs.Marks.{mark_at, IsUnderWay}
use Rattle.nofs_history.specs.History.{FilesMatch}
use Rattle.nofs_history.specs.Allowed.{HasVersions, NamesStay, IsAllowed}
use Rattle.nofs_history.specs.Steady.{SteadyPointers, SteadyRest}
use Rattle.nofs_disk.specs.declared.tag.Cell.{Cell}
use Rattle.nofs_inode.specs.InodeRecords.{is_live}
use Rattle.nofs_model.specs.Geometry.{Image, inode}
use Rattle.nofs_model.specs.Files.{Files}

-- A step that begins at image X, a pick of what a crash may leave at moment l, with its reasons; and what may be left
-- at moment m of it
pub record StepUnderWay (B : Image) (H : List Entry1) (e : Entry1) (l m : ℕ) (image : Image) (stamps : ℕ)
    (before after : ℕ → List Cell) (X : Image)
    : Type 0 where
  pub under_way : IsUnderWay H e l m
  pub mark : IsMark (mark_at B H l image stamps)
  pub size : length image ≡ length B
  pub super : cell_at image 0 ≡ cell_at B 0
  pub explained : AllExplained (mark_at B H l image stamps) before
  pub pick : Picks before (length image) X
  pub files : FilesMatch (files_along (agreed_files B) H) X
  pub proper : OnlyProper
      (during (mark_at B H l image stamps) (given_by (files_along (agreed_files B) H) e)) X before after

-- what then holds at moment m, with the step's entry under way
pub record StepKeeps (B : Image) (H : List Entry1) (e : Entry1) (l m : ℕ) (image : Image) (stamps : ℕ)
    (after : ℕ → List Cell) : Type 0 where
  pub mark : IsMark (mark_at B (H ++ e ∷ []) m image stamps)
  pub explained : AllExplained (mark_at B (H ++ e ∷ []) m image stamps) after
  pub allowed : (Y : Image) → Picks after (length image) Y → IsAllowed B (H ++ e ∷ []) m Y
  pub steady : (Y : Image) → Picks after (length image) Y → SteadyPointers B (H ++ e ∷ []) m after Y

-- A step: where each cell that it may leave was there before it, or is a proper write, every image is allowed with the
-- step's entry under way, and the pointers of what is sure are the same in all of them.
abbrev pub LawStep : Type 0
LawStep = (B : Image) (H : List Entry1) (e : Entry1) (l m : ℕ) (image : Image) (stamps : ℕ)
    (before after : ℕ → List Cell) (X : Image)
    → StepUnderWay B H e l m image stamps before after X → StepKeeps B H e l m image stamps after

-- an entry that begins at moment m or later, and flushes, if it does, after it
abbrev pub AllLater : List Entry1 → ℕ → Type 0
AllLater [] m = Unit {0}
AllLater (e ∷ es) m = (m ≤ e.from) × (is_flushed e.reply ≡ true → m < e.to) × AllLater es m

-- entries that come later change nothing of what is allowed at a moment
abbrev pub LawLater : Type 0
LawLater = (B : Image) (H es : List Entry1) (m : ℕ) (X : Image) → AllLater es m → IsAllowed B H m X
    → IsAllowed B (H ++ es) m X

-- the parts on versions give the part on names
abbrev pub LawNames : Type 0
LawNames = (B : Image) (H : List Entry1) (m : ℕ) (X : Image) → HasVersions B H m X → NamesStay B H m X

-- A step from X to Y, with the machine's files E after it, touches no inode that the machine does not have, and gives
-- nothing to it
pub record SparesRest (B : Image) (H : List Entry1) (e : Entry1) (s : ℕ) (touched : ℕ → Bool) (X Y : Image)
    (E : Files) : Type 0 where
  pub before : FilesMatch (files_along (agreed_files B) H) X
  pub after : FilesMatch E Y
  pub touches : Touches s touched X Y
  pub old : (i : ℕ) → is_live (inode X i) ≡ true → OldPointers s X i
  pub owned : (i : ℕ) → touched i ≡ true → is_live (inode Y i) ≡ true → is_some (E i) ≡ true
  pub stays : (i : ℕ) → touched i ≡ false → is_some (files_along (agreed_files B) H i) ≡ true → is_some (E i) ≡ true
  pub no_value : (i g k : ℕ) → touched i ≡ false → is_some (files_along (agreed_files B) H i) ≡ false
      → (given_by (files_along (agreed_files B) H) e).slots i g k ≡ None
  pub no_meta : (i g : ℕ) → touched i ≡ false → is_some (files_along (agreed_files B) H i) ≡ false
      → (given_by (files_along (agreed_files B) H) e).metas i g ≡ None

-- what is live and not agreed stays the base's
abbrev pub LawRest : Type 0
LawRest = (B : Image) (H : List Entry1) (e : Entry1) (s : ℕ) (touched : ℕ → Bool) (X Y : Image) (E : Files)
    → SteadyRest B H X
    → SparesRest B H e s touched X Y E → SteadyRest B (H ++ e ∷ []) Y

-- Until a flush has succeeded, the base is among what a crash may leave.
abbrev pub LawUnflushed : Type 0
LawUnflushed = (B : Image) (H : List Entry1) (m : ℕ) → mark H m ≡ 0 → IsAllowed B H m B
