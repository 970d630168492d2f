-- How many elements of the machine's world are used, free, and not known.
use Rattle.std.specs.Prelude.{◌≡◌, ℕ, suc, ◌&&◌}
use Rattle.nofs_history.specs.Search.{count_below}
use Rattle.nofs_history.specs.World.{World, free_blocks, free_inodes, unverified_blocks, unverified_inodes, uses_block}
use Rattle.nofs_history.specs.World.{uses_inode}
use Rattle.nofs_state.specs.declared.books.maps.Counts.{Counts}

-- how many inodes are known and used
abbrev pub used_inodes : World → ℕ
used_inodes W = count_below (λ n. W.known_inodes (suc n) && uses_inode W (suc n)) W.inodes

-- how many blocks are
abbrev pub used_blocks : World → ℕ
used_blocks W = count_below (λ p. W.known_blocks p && uses_block W p) W.blocks

-- these counts are the world's
pub record CountsInodes (W : World) (c : Counts) : Type 0 where
  pub used : c.inodes_used ≡ used_inodes W
  pub free : c.inodes_free ≡ free_inodes W
  pub unchecked : c.inodes_unchecked ≡ unverified_inodes W

pub record CountsBlocks (W : World) (c : Counts) : Type 0 where
  pub used : c.blocks_used ≡ used_blocks W
  pub free : c.blocks_free ≡ free_blocks W
  pub unchecked : c.blocks_unchecked ≡ unverified_blocks W
