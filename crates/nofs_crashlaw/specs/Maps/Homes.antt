-- The homes of the machine after a step are the owners of the image after it.
use Rattle.std.specs.Prelude.{◌≡◌, ◌≢◌, ℕ, ◌<◌, ◌⊎◌, Bool, true, false, not, Some, is_some, Contains}
use Rattle.nofs_model.specs.declared.image.path.PathAnswer.TheVariants as answer
use Rattle.nofs_history.specs.declared.machine.steps.Step.{Step}
use Rattle.nofs_history.specs.declared.machine.history.Claims.{Claims}
use Rattle.nofs_history.specs.declared.machine.history.Entry1.{Entry1}
use Rattle.nofs_history.specs.Machine.{is_write_fault}
use Rattle.nofs_history.specs.History.{FilesMatch}
use Rattle.nofs_history.specs.World.{World, uses_inode, uses_block}
use Rattle.nofs_history.specs.Claims.{claimed_blocks, claimed_home, homes_after, IsClaim}
use Rattle.nofs_history.specs.Next.{Keeps, Next}
use Rattle.nofs_history.specs.Good.{MatchesSuper, IsGood}
use Rattle.nofs_disk.specs.declared.tag.Pointer.{Pointer}
use Rattle.nofs_model.specs.Geometry.{Image, is_data_block}
use Rattle.nofs_disk.specs.Disk.{cell_at}
use Rattle.nofs_model.specs.Files.{files_in, agreed, Files}
use Rattle.nofs_ptrs.specs.Paths.{Path, slot_of, IsSlot}
use Rattle.nofs_model.specs.Slots.{find}
use Rattle.nofs_model.specs.Owners.{Home, owner, is_used_inode, is_used_block, IsFree}

-- the slot of this home holds block p, and its inode is agreed
pub record Houses (X : Image) (home : Home) (p : ℕ) : Type 0 where
  pub path : Path
  pub pointer : Pointer
  pub is_slot : IsSlot path
  pub slot : home.slot ≡ slot_of path
  pub agreed : agreed (files_in X) home.inode ≡ true
  pub holds : find X home.inode path ≡ answer.Holds pointer
  pub block : pointer.block ≡ p

-- What each step gives: its claimed blocks stand in their slots, and every other slot that holds held the same block
-- before.
pub record HomesMove (F : Files) (step : Step) (c : Claims) (X Y : Image) : Type 0 where
  pub claimed : (p : ℕ) (home : Home) → claimed_home F step c p ≡ Some home → Houses Y home p
  pub held : (j : ℕ) (a : Path) (y : Pointer) → IsSlot a → agreed (files_in Y) j ≡ true → find Y j a ≡ answer.Holds y
      → ((agreed (files_in X) j ≡ true) × (find X j a ≡ answer.Holds y))
      ⊎ ((is_some (claimed_home F step c y.block) ≡ true) × ((x : Pointer) → find X j a ≡ answer.Holds x → ⊥))

abbrev pub HomesMatch : World → Image → Type 0
HomesMatch W X = (p : ℕ) → p < W.blocks → W.homes p ≡ owner X p

-- maps that say what the world says
abbrev pub GoodMaps : World → Image → Type 0
GoodMaps W X = IsGood W W.known_inodes (λ i. not (uses_inode W i)) W.known_blocks (λ p. not (uses_block W p)) X

abbrev pub LawHomes : Type 0
LawHomes = (W V : World) (step : Step) (c : Claims) (X Y : Image) → HomesMatch W X → FilesMatch W.files X
    → HomesMove W.files step c X Y
    → V.blocks ≡ W.blocks → V.homes ≡ homes_after W step c V.files → FilesMatch V.files Y → HomesMatch V Y

-- numbers, files and homes that are those of the image make the world's maps good
abbrev pub LawGood : Type 0
LawGood = (V : World) (Y : Image) → MatchesSuper V Y → FilesMatch V.files Y → HomesMatch V Y → GoodMaps V Y

-- no step changes these numbers
pub record SameNumbers (W V : World) : Type 0 where
  pub version : V.version ≡ W.version
  pub blocks : V.blocks ≡ W.blocks
  pub inodes : V.inodes ≡ W.inodes
  pub mount : V.mount ≡ W.mount

-- each claimed element was known, and the scan has it free
pub record ClaimsFree (W : World) (c : Claims) (X : Image) : Type 0 where
  pub block_known : (x : Pointer) → Contains (claimed_blocks c) x → W.known_blocks x.block ≡ true
  pub block_unused : (x : Pointer) → Contains (claimed_blocks c) x → is_used_block X x.block ≡ false
  pub block_free : (x : Pointer) → Contains (claimed_blocks c) x → IsFree X x.block
  pub block_data : (x : Pointer) → Contains (claimed_blocks c) x → is_data_block X x.block ≡ true
  pub inode_known : c.inode ≢ 0 → W.known_inodes c.inode ≡ true
  pub inode_unused : c.inode ≢ 0 → is_used_inode X c.inode ≡ false

-- a step that is done keeps the maps good
abbrev pub LawGoodDone : Type 0
LawGoodDone = (W V : World) (step : Step) (c : Claims) (vi fi vb fb : ℕ → Bool) (X Y : Image) → IsGood W vi fi vb fb X
    → SameNumbers W V → V.homes ≡ homes_after W step c V.files
    → cell_at Y 0 ≡ cell_at X 0 → HomesMove W.files step c X Y → FilesMatch V.files Y → GoodMaps V Y

-- and so does a step that is not
abbrev pub LawGoodKept : Type 0
LawGoodKept = (W V : World) (vi fi vb fb : ℕ → Bool) (X : Image) → IsGood W vi fi vb fb X → Keeps W V → GoodMaps V X

-- what a step claims is free
abbrev pub LawClaims : Type 0
LawClaims = (W : World) (step : Step) (c : Claims) (vi fi vb fb : ℕ → Bool) (X : Image) → IsGood W vi fi vb fb X
    → IsClaim W step c → ClaimsFree W c X

-- Good goes on over each step that has no fault of writing, whatever its case.
abbrev pub LawGoodNext : Type 0
LawGoodNext = (W V : World) (e : Entry1) (vi fi vb fb : ℕ → Bool) (X Y : Image) → Next W e V
    → is_write_fault e.reply ≡ false
    → IsGood W vi fi vb fb X → cell_at Y 0 ≡ cell_at X 0
    → HomesMove W.files e.step e.claims X Y → FilesMatch V.files Y → GoodMaps V Y
