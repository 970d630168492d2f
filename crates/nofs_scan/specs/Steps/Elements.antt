-- Inodes and blocks alike: what a scan examines.
use Rattle.std.specs.Prelude.{◌≡◌, ℕ, ◌+◌, ◌/◌, ◌<◌, ◌≤◌, Bool, List, map, Option, IsTrue, slice_index_or, false}
use Rattle.nofs_disk.specs.Disk.{DiskState}
use Rattle.nofs_super.specs.declared.superblock.SuperBlock.{SuperBlock}
use Rattle.nofs_model.specs.Geometry.{Image}
use Rattle.nofs_model.specs.Owners.{is_used_inode, is_used_block}
use Rattle.nofs_history.specs.declared.machine.steps.ElementKind.{ElementKind}
use Rattle.nofs_history.specs.declared.machine.steps.ElementKind.TheVariants as element
use Rattle.nofs_history.specs.declared.machine.steps.Step.{Step}
use Rattle.nofs_history.specs.declared.machine.steps.Step.TheVariants as step
use Rattle.nofs_agree.specs.Chain.{AreTrue}
use Rattle.nofs_state.specs.Books.Verdicts.{learned_block, learned_inode, verdict_of_block, verdict_of_inode}
use Rattle.nofs_state.specs.declared.books.maps.Books.{Books}
use Rattle.nofs_scan.specs.declared.sights.evidence.Verdict.{Verdict}

-- the least element, and the end of them
abbrev pub least : ElementKind → ℕ
least element.Inode = 1
least element.Block = 0

abbrev pub element_end : ElementKind → SuperBlock → ℕ
element_end element.Inode at = at.inodes + 1
element_end element.Block at = at.blocks

-- the disk has this element
abbrev pub HasElement : ElementKind → SuperBlock → ℕ → Type 0
HasElement kind at item = (least kind ≤ item) × (item < element_end kind at)

-- the step that examines it
abbrev pub see_step : ElementKind → ℕ → Step
see_step element.Inode i = step.SeeInode i
see_step element.Block p = step.SeeBlock p

-- the scan of an image has it as used
abbrev pub is_used : ElementKind → Image → ℕ → Bool
is_used element.Inode X i = is_used_inode X i
is_used element.Block X p = is_used_block X p

-- the verdict that stands of it
abbrev pub verdict_of : ElementKind → Books → ℕ → Option Bool
verdict_of element.Inode k i = verdict_of_inode k i
verdict_of element.Block k p = verdict_of_block k p

-- the books after it is found to be used or not
abbrev pub learned : ElementKind → Books → ℕ → Bool → Books
learned element.Inode k i = learned_inode k i
learned element.Block k p = learned_block k p

-- the least element that may be free, whatever the disk
abbrev pub least_free : ElementKind → SuperBlock → ℕ
least_free element.Inode at = 0
least_free element.Block at = 1 + at.inodes / 4

-- a verdict that these books may learn
abbrev pub MayLearn : ElementKind → Books → ℕ → Bool → Type 0
MayLearn kind k item used = used ≡ false → least_free kind k.at ≤ item

-- a verdict is the scan's, where the disk tells and what is known of inodes is true
pub record IsScanVerdict (d : DiskState) (at : SuperBlock) (known : List (Option Bool)) (kind : ElementKind)
    (v : Verdict) : Type 0 where
  pub range : HasElement kind at v.item
  pub may : v.used ≡ false → least_free kind at ≤ v.item
  pub scan : IsTrue d.tells → AreTrue d.now known → v.used ≡ is_used kind d.now v.item

-- so it is where what these books know is
abbrev pub IsRight : DiskState → Books → ElementKind → Verdict → Type 0
IsRight d k kind v = IsScanVerdict d k.at k.agreement kind v

-- the verdict at a place
abbrev pub verdict_at : List Verdict → ℕ → Verdict
verdict_at vs at = slice_index_or vs at (record { item = 0; used = false })

-- the elements of these verdicts
abbrev pub items_of : List Verdict → List ℕ
items_of vs = map (λ v. v.item) vs
