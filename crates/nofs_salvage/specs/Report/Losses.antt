-- The report of a world: what is lost in it, by the names that a rule picks.
use Rattle.std.specs.Prelude.{ℕ, zero, suc, ◌^◌, min, Bool, not, ◌&&◌, List, [], ◌∷◌, ◌++◌, Option, Some, None}
use Rattle.std.specs.Prelude.{if◌then◌else◌, slice_get, bytes_eq, ◌==◌}
use Rattle.std.specs.List.{list_any}
use Rattle.nofs_dirent.specs.declared.entry.Entry.{Entry}
use Rattle.nofs_model.specs.Files.{Files, entry_at, is_folder}
use Rattle.nofs_history.specs.Machine.{value_of, size_of, slots_in, is_lost, found}
use Rattle.nofs_history.specs.Refusals.{slots}
use Rattle.nofs_history.specs.Answers.{lines_in_slot}
use Rattle.nofs_history.specs.World.{World}
use Rattle.nofs_history.specs.declared.machine.replies.NameLine.{NameLine}
use Rattle.nofs_salvage.specs.declared.report.findings.NameFlaw.{NameFlaw}
use Rattle.nofs_salvage.specs.declared.report.findings.NameFlaw.TheVariants as flaw
use Rattle.nofs_salvage.specs.declared.report.report.Loss.{Loss}
use Rattle.nofs_salvage.specs.declared.report.report.Loss.TheVariants as loss

-- The inode that a name finds, 0 where it finds none

abbrev pub inode_in : Option Entry → ℕ
inode_in None = 0
inode_in (Some entry) = entry.inode

abbrev pub inode_at : Files → ℕ → Option ℕ → ℕ
inode_at F d None = 0
inode_at F d (Some e) = inode_in (entry_at F d e)

unfoldable pub inode_found : Files → ℕ → List ℕ → ℕ
inode_found F d name = inode_at F d (found F d name)

-- Slots

-- one loss, or none
abbrev pub if_so : Bool → Loss → List Loss
if_so test it = if test then it ∷ [] else []

-- a name that leads to no file, or that an earlier one hides
abbrev pub name_loss : NameFlaw → ℕ → List ℕ → Loss
name_loss flaw.Dead d name = loss.Dead d name
name_loss flaw.Twice d name = loss.Twice d name

-- those of inode i that are lost, of its first n
unfoldable pub lost_below : Files → ℕ → ℕ → List Loss
lost_below F i zero = []
lost_below F i (suc n) = lost_below F i n ++ if_so (is_lost (value_of F i n)) (loss.Slot i n)

-- those of a file: below its size, and below what a file can have
abbrev pub file_losses : World → ℕ → List Loss
file_losses W i = lost_below W.files i (min (slots_in (size_of W.files i)) (slots W))

-- The lines of directory d, behind the earlier lines of it

-- an earlier pair has the name
abbrev pub is_doubled : List NameLine → List ℕ → Bool
is_doubled earlier name = list_any (λ line. not line.dead && bytes_eq name line.name) earlier

-- a pair leads to a file, with its lost slots, or to a directory
abbrev pub pair_losses : World → Bool → ℕ → NameLine → List Loss
pair_losses W wanted d line =
    if not (is_folder line.kind) && wanted then file_losses W (inode_found W.files d line.name) else []

abbrev pub pair_folders : Files → ℕ → NameLine → List ℕ
pair_folders F d line = if is_folder line.kind then inode_found F d line.name ∷ [] else []

-- a line is of a dead entry, of a name that an earlier pair has, or of any other pair
abbrev pub line_losses : World → (List ℕ → Bool) → ℕ → List NameLine → NameLine → List Loss
line_losses W picks d earlier line =
    if line.dead then if_so (picks line.name) (loss.Dead d line.name) else
    (if is_doubled earlier line.name then if_so (picks line.name) (loss.Twice d line.name)
    else pair_losses W (picks line.name) d line)

abbrev pub line_folders : Files → ℕ → List NameLine → NameLine → List ℕ
line_folders F d earlier line = if line.dead then []
    else (if is_doubled earlier line.name then [] else pair_folders F d line)

-- line by line
unfoldable pub lines_losses : World → (List ℕ → Bool) → ℕ → List NameLine → List NameLine → List Loss
lines_losses W picks d earlier [] = []
lines_losses W picks d earlier (line ∷ lines) =
    line_losses W picks d earlier line ++ lines_losses W picks d (earlier ++ line ∷ []) lines

unfoldable pub lines_folders : Files → ℕ → List NameLine → List NameLine → List ℕ
lines_folders F d earlier [] = []
lines_folders F d earlier (line ∷ lines) =
    line_folders F d earlier line ++ lines_folders F d (earlier ++ line ∷ []) lines

-- The first n slots of directory d

-- their lines
unfoldable pub lines_below : Files → ℕ → ℕ → List NameLine
lines_below F d zero = []
lines_below F d (suc n) = lines_below F d n ++ lines_in_slot F d n

-- a slot is lost, or has lines
abbrev pub slot_losses : World → (List ℕ → Bool) → ℕ → ℕ → List Loss
slot_losses W picks d k =
    if is_lost (value_of W.files d k)
    then loss.Slot d k ∷ [] else lines_losses W picks d (lines_below W.files d k) (lines_in_slot W.files d k)

-- their losses
unfoldable pub losses_below : World → (List ℕ → Bool) → ℕ → ℕ → List Loss
losses_below W picks d zero = []
losses_below W picks d (suc n) = losses_below W picks d n ++ slot_losses W picks d n

-- the directories that they name
unfoldable pub folders_below : Files → ℕ → ℕ → List ℕ
folders_below F d zero = []
folders_below F d (suc n) = folders_below F d n ++ lines_folders F d (lines_below F d n) (lines_in_slot F d n)

-- how many slots a directory has
abbrev pub folder_slots : ℕ
folder_slots = 72

-- All directories, each once

-- one more, where it isn't there yet
abbrev pub with_one : List ℕ → ℕ → List ℕ
with_one ds d = if list_any (λ x. x == d) ds then ds else ds ++ d ∷ []

-- several
abbrev pub with_directories : List ℕ → List ℕ → List ℕ
with_directories ds [] = ds
with_directories ds (d ∷ more) = with_directories (with_one ds d) more

-- the directories that the one at some place names
abbrev pub folders_of : Files → Option ℕ → List ℕ
folders_of F None = []
folders_of F (Some d) = folders_below F d folder_slots

-- the root, and behind it the directories that those at the first n places of this list name
unfoldable pub tree_after : Files → ℕ → List ℕ
tree_after F zero = 1 ∷ []
tree_after F (suc n) = with_directories (tree_after F n) (folders_of F (slice_get (tree_after F n) n))

-- all of them: no list is so long
unfoldable pub tree_of : Files → List ℕ
tree_of F = tree_after F (2 ^ 64)

-- directory by directory
unfoldable pub tree_losses : World → (List ℕ → Bool) → List ℕ → List Loss
tree_losses W picks [] = []
tree_losses W picks (d ∷ ds) = losses_below W picks d folder_slots ++ tree_losses W picks ds

-- the label file, inode 2, and then all directories
unfoldable pub report_of : World → (List ℕ → Bool) → List Loss
report_of W picks = file_losses W 2 ++ tree_losses W picks (tree_of W.files)
