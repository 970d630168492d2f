-- The laws of unchanged and of stale verdicts.
use Rattle.std.specs.Prelude.{◌≡◌, ℕ, ◌<◌, false, List, ◌++◌, Bool}
use Rattle.nofs_model.specs.Geometry.{Image}
use Rattle.nofs_model.specs.Owners.{is_used_inode, is_used_block}
use Rattle.nofs_history.specs.declared.machine.history.Entry1.{Entry1}
use Rattle.nofs_history.specs.World.{World}
use Rattle.nofs_history.specs.Next.{Run}
use Rattle.nofs_history.specs.Good.{IsGood, IsUnchanged}

-- What is not known at the end of a run has one verdict in each of its worlds.
abbrev pub LawUnchanged : Type 0
LawUnchanged = (es : List Entry1) (start : ℕ) (W V : World) → Run start W es V → IsUnchanged W V

-- a run passes through a world, from which the later entries go on
pub record Passes (start : ℕ) (W : World) (before after : List Entry1) (V : World) : Type 0 where
  pub world : World
  pub moment : ℕ
  pub run : Run start W before world
  pub rest : Run moment world after V

-- A run over a history passes through a world after each of its prefixes.
abbrev pub LawPasses : Type 0
LawPasses = (before after : List Entry1) (start : ℕ) (W V : World) → Run start W (before ++ after) V
    → Passes start W before after V

-- the maps say what the disk X says in world W
pub record Shows (W : World) (X : Image) : Type 0 where
  pub verified_inodes : ℕ → Bool
  pub free_inodes : ℕ → Bool
  pub verified_blocks : ℕ → Bool
  pub free_blocks : ℕ → Bool
  pub good : IsGood W verified_inodes free_inodes verified_blocks free_blocks X

-- A verdict that the scan of the disk gave in one world of a run is that of the scan in every later one in which its
-- element isn't known.
abbrev pub LawStale : Type 0
LawStale = (es : List Entry1) (moment : ℕ) (U V : World) (X Y : Image) → Run moment U es V
    → U.blocks ≡ V.blocks → Shows U X → Shows V Y
    → ((i : ℕ) → V.known_inodes i ≡ false → is_used_inode Y i ≡ is_used_inode X i)
    × ((p : ℕ) → p < V.blocks → V.known_blocks p ≡ false → is_used_block Y p ≡ is_used_block X p)

-- the same disk, files and homes, whatever is known of them
pub record SameState (W V : World) : Type 0 where
  pub blocks : V.blocks ≡ W.blocks
  pub inodes : V.inodes ≡ W.inodes
  pub files : V.files ≡ W.files
  pub homes : V.homes ≡ W.homes

-- Two runs of the same entries from the same files and homes end in the same, whatever they learn on the way.
abbrev pub LawOneRun : Type 0
LawOneRun = (es : List Entry1) (start moment : ℕ) (U W V X : World) → SameState U W → Run start U es V
    → Run moment W es X → SameState V X

-- What a history's part leads to has the verdicts of the world at its end, of all that isn't known there.
abbrev pub LawLate : Type 0
LawLate = (before after : List Entry1) (start : ℕ) (W U V : World) → Run start W before U
    → Run start W (before ++ after) V → IsUnchanged U V
