-- What the maps are once each element was examined.
use Rattle.std.specs.Prelude.{◌≡◌, List, ◌∷◌, ◌++◌, ℕ, Bool, false, Some}
use Rattle.nofs_disk.specs.Disk.{DiskState}
use Rattle.nofs_super.specs.declared.superblock.SuperBlock.{SuperBlock}
use Rattle.nofs_model.specs.Geometry.{Image}
use Rattle.nofs_history.specs.declared.machine.history.Entry1.{Entry1}
use Rattle.nofs_history.specs.declared.machine.steps.ElementKind.{ElementKind}
use Rattle.nofs_history.specs.declared.machine.replies.Reply.TheVariants as reply
use Rattle.nofs_state.specs.Books.Maps.{IsSafe}
use Rattle.nofs_state.specs.Cores.Invariant.{IsOpen, Past}
use Rattle.nofs_state.specs.declared.books.maps.Books.{Books}
use Rattle.nofs_scan.specs.Steps.Elements.{HasElement, is_used, see_step, verdict_of}

-- an entry of the history has its verdict
pub record IsExamined (H : List Entry1) (kind : ElementKind) (item : ℕ) : Type 0 where
  pub before : List Entry1
  pub entry : Entry1
  pub after : List Entry1
  pub whole : H ≡ before ++ entry ∷ after
  pub step : entry.step ≡ see_step kind item
  pub verdict : Bool
  pub seen : entry.reply ≡ reply.Seen verdict

-- so has each element of the disk
abbrev pub AreExamined : List Entry1 → SuperBlock → Type 0
AreExamined H at = (kind : ElementKind) (item : ℕ) → HasElement kind at item → IsExamined H kind item

-- the maps are the scan of the image: of each element the verdict stands, and is the scan's
abbrev pub IsFullScan : Image → Books → Type 0
IsFullScan X k = (kind : ElementKind) (item : ℕ) → HasElement kind k.at item
    → verdict_of kind k item ≡ Some (is_used kind X item)

-- After both sweeps, in any order and beside any users, the maps of a mount that no write fault stopped are the full
-- scan of its disk
abbrev pub LawScanned : DiskState → Books → Type 0
LawScanned d k = IsSafe d k → k.stopped ≡ false → (H : List Entry1) (p : Past) → IsOpen d k H p → AreExamined H k.at
    → IsFullScan d.now k
