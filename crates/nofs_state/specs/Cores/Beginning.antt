-- A mount that has just begun: its books, and what only proofs know of it.
use Rattle.std.specs.Prelude.{◌≡◌, ℕ, ◌+◌, ◌*◌, ◌/◌, ◌^◌, ◌≤◌, false, [], nat_le}
use Rattle.nofs_bits.specs.Bits.{is_set}
use Rattle.nofs_disk.specs.Disk.{DiskState}
use Rattle.nofs_super.specs.declared.superblock.SuperBlock.{SuperBlock}
use Rattle.nofs_model.specs.Geometry.{super_at}
use Rattle.nofs_model.specs.Files.{is_special}
use Rattle.nofs_history.specs.World.{world_of}
use Rattle.nofs_state.specs.Books.Maps.{knows_block, knows_inode}
use Rattle.nofs_state.specs.Cores.Invariant.{Past}
use Rattle.nofs_state.specs.declared.books.maps.Books.{Books}

-- Only what is fixed is known, over any disk: the root and the label file, the superblock's block and those of the
-- table. None of it is free
pub record KnowsFixed (it : SuperBlock) (k : Books) : Type 0 where
  pub inodes : (i : ℕ) → knows_inode k i ≡ is_special i
  pub blocks : (b : ℕ) → knows_block k b ≡ nat_le b (it.inodes / 4)
  pub free_inodes : (n : ℕ) → is_set k.free_inodes n ≡ false
  pub free_blocks : (b : ℕ) → is_set k.free_blocks b ≡ false

-- the books of a mount with this superblock, before its first step
pub record HasBegun (d : DiskState) (it : SuperBlock) (k : Books) : Type 0 where
  -- the history begins at the disk's moment, and has no entry
  pub start : k.history.start ≡ d.moment
  pub empty : k.history.entries ≡ []
  -- it has room for an entry of each inode and of each block
  pub spare : it.inodes + it.blocks ≤ k.history.spare
  -- the numbers are those of the superblock
  pub at : k.at ≡ it
  -- no write has failed
  pub going : k.stopped ≡ false
  -- and nothing was examined
  pub known : KnowsFixed it k

-- what proofs know of it: the disk is its base and its mark, and the world is the first one
abbrev pub first_past : DiskState → ℕ → Past
first_past d first = record {
  base = d.now;
  first = first;
  mark = d.now;
  stamps = (super_at d.now).mount * 2 ^ 40 + first;
  world = world_of d.now first;
}
