-- What the machine's answers say, while no file changes.
use Rattle.std.specs.Prelude.{◌≡◌, ℕ, ◌-◌, ◌<◌, ◌≤◌, Bool, true, false, not, List, ◌++◌, All, Option, Some, None}
use Rattle.nofs_model.specs.Files.{Files}
use Rattle.nofs_history.specs.Search.{least_from}
use Rattle.nofs_history.specs.Machine.{value_of, is_lost, is_hole}
use Rattle.nofs_history.specs.Refusals.{slots}
use Rattle.nofs_history.specs.Answers.{lines_in_slot}
use Rattle.nofs_history.specs.World.{World}
use Rattle.nofs_history.specs.Next.{Next}
use Rattle.nofs_history.specs.Steps.{Made}
use Rattle.nofs_history.specs.declared.machine.history.Entry1.{Entry1}
use Rattle.nofs_salvage.specs.declared.report.report.Loss.{Loss}
use Rattle.nofs_salvage.specs.declared.report.report.Loss.TheVariants as loss
use Rattle.nofs_salvage.specs.declared.report.answers.SlotState.{SlotState}
use Rattle.nofs_salvage.specs.declared.report.answers.SlotState.TheVariants as got
use Rattle.nofs_salvage.specs.declared.report.answers.NextSlot.{NextSlot}
use Rattle.nofs_salvage.specs.declared.report.answers.NextSlot.TheVariants as listed
use Rattle.nofs_salvage.specs.Report.Losses.{if_so}

-- the machine answers a step so in a world with the files of W
pub record IsAnswered (W : World) (m : Made) : Type 0 where
  pub before : World
  pub after : World
  pub entry : Entry1
  pub version : before.version ≡ W.version
  pub files : before.files ≡ W.files
  pub asked : entry.step ≡ m.0
  pub replied : entry.reply ≡ m.1
  pub next : Next before entry after

-- each step that was made from old to new was answered so
pub record AreAnswered (W : World) (old new : List Made) : Type 0 where
  pub made : List Made
  pub more : new ≡ old ++ made
  pub each : All (IsAnswered W) made

-- the least slot of directory d, from k on, that is no hole
abbrev pub first_data_slot : Files → ℕ → ℕ → Option ℕ
first_data_slot F d k = least_from (λ l. not (is_hole (value_of F d l))) k (72 - k)

-- what is listed from slot k on
abbrev pub IsListedFrom : Files → ℕ → ℕ → NextSlot → Type 0
IsListedFrom F d k (listed.Names l names) = (first_data_slot F d k ≡ Some l) × (is_lost (value_of F d l) ≡ false)
    × (names ≡ lines_in_slot F d l)
IsListedFrom F d k (listed.LostNames l) = (first_data_slot F d k ≡ Some l) × (is_lost (value_of F d l) ≡ true)
IsListedFrom F d k listed.NoMore = first_data_slot F d k ≡ None

-- a list gives slots of a directory
abbrev pub IsInFolder : NextSlot → Type 0
IsInFolder (listed.Names l names) = l < 72
IsInFolder (listed.LostNames l) = l < 72
IsInFolder listed.NoMore = Unit {0}

-- what is got of slot k
abbrev pub IsGot : World → ℕ → ℕ → SlotState → Type 0
IsGot W i k got.Kept = (k < slots W) × (is_lost (value_of W.files i k) ≡ false)
IsGot W i k got.Lost = (k < slots W) × (is_lost (value_of W.files i k) ≡ true)
IsGot W i k got.NoSlot = slots W ≤ k

-- slot k of inode i is noted where it is lost; and not at all where no file has it
abbrev pub IsNoted : World → ℕ → ℕ → Bool → List Loss → List Loss → Type 0
IsNoted W i k true old new = (k < slots W) × (new ≡ old ++ if_so (is_lost (value_of W.files i k)) (loss.Slot i k))
IsNoted W i k false old new = (slots W ≤ k) × (new ≡ old)
