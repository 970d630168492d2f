-- Maps that are right, verdicts that stay, and stamps that are fresh.
use Rattle.std.specs.Prelude.{◌≡◌, ℕ, ◌+◌, ◌*◌, ◌^◌, ◌<◌, Bool, true, false, not, List, Contains}
use Rattle.nofs_disk.specs.declared.tag.Cell.{Cell}
use Rattle.nofs_model.specs.Geometry.{Image, super_at}
use Rattle.nofs_model.specs.Owners.{owner, is_used_inode, is_used_block}
use Rattle.nofs_model.specs.Sound.{CellBelow}
use Rattle.nofs_history.specs.History.{FilesMatch}
use Rattle.nofs_history.specs.World.{World, uses_inode, uses_block}

-- the world's numbers are those of the image's superblock
pub record MatchesSuper (W : World) (X : Image) : Type 0 where
  pub version : W.version ≡ (super_at X).version
  pub blocks : W.blocks ≡ (super_at X).blocks
  pub inodes : W.inodes ≡ (super_at X).inodes
  pub mount : W.mount ≡ (super_at X).mount

-- the maps and the image are those of the world
pub record IsGood (W : World) (verified_inodes free_inodes verified_blocks free_blocks : ℕ → Bool)
    (X : Image) : Type 0 where
  pub numbers : MatchesSuper W X
  pub files : FilesMatch W.files X
  pub homes : (p : ℕ) → p < W.blocks → W.homes p ≡ owner X p
  pub inodes : (i : ℕ) → verified_inodes i ≡ W.known_inodes i
  pub blocks : (p : ℕ) → verified_blocks p ≡ W.known_blocks p
  pub inode_verdicts : (i : ℕ) → verified_inodes i ≡ true → free_inodes i ≡ not (is_used_inode X i)
  pub block_verdicts : (p : ℕ) → p < W.blocks → verified_blocks p ≡ true → free_blocks p ≡ not (is_used_block X p)

-- the worlds of a run have one verdict of what is not known at its end
abbrev pub IsUnchanged : World → World → Type 0
IsUnchanged W V = ((i : ℕ) → V.known_inodes i ≡ false → uses_inode V i ≡ uses_inode W i)
    × ((p : ℕ) → V.known_blocks p ≡ false
    → uses_block V p ≡ uses_block W p)

-- every stamp in what a crash may leave is below the next one
abbrev pub IsFresh : World → Image → (ℕ → List Cell) → Type 0
IsFresh W X may = (b : ℕ) → b < W.blocks → (c : Cell) → Contains (may b) c
    → CellBelow (W.mount * 2 ^ 40 + W.serial) X b c
