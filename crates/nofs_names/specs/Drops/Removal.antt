-- What the removal of an inode does to the maps, and asks.
use Rattle.nofs_state.specs.Inodes.Blocks.{AreFreed}
use Rattle.nofs_state.specs.declared.books.maps.Books.{Books}
use Rattle.nofs_names.specs.declared.searches.slots.Paired.{Paired}
use Rattle.std.specs.Prelude.{◌≡◌, ℕ, ◌+◌, ◌-◌, ◌/◌, ◌<◌, ◌≤◌, Bool, true, false, ◌==◌, List, Option, Some, None}
use Rattle.std.specs.Prelude.{length, IsTrue, slice_set}
use Rattle.nofs_bits.specs.Bits.{is_set}
use Rattle.nofs_disk.specs.Disk.{DiskState}
use Rattle.nofs_super.specs.declared.superblock.SuperBlock.{SuperBlock}
use Rattle.nofs_model.specs.Files.{Files, files_in, agreed}
use Rattle.nofs_model.specs.Owners.{Home, owner}
use Rattle.nofs_history.specs.Meta.{is_gone}
use Rattle.nofs_history.specs.Machine.{drop_meta, link_to}
use Rattle.nofs_history.specs.History.{FilesMatch}
use Rattle.nofs_names.specs.Searches.Refusals.{KnownTrue}

-- the maps have the sizes of the disk
pub record HasSizes (k : Books) : Type 0 where
  pub unknown_inodes : length k.unknown_inodes ≡ k.at.inodes
  pub free_inodes : length k.free_inodes ≡ k.at.inodes
  pub agreement : length k.agreement ≡ k.at.inodes
  pub unknown_blocks : length k.unknown_blocks ≡ k.at.blocks
  pub free_blocks : length k.free_blocks ≡ k.at.blocks

-- an inode and these blocks are known and free
pub record FreedAs (k l : Books) (i : ℕ) (freed : List Bool) : Type 0 where
  pub at : l.at ≡ k.at
  pub serial : l.serial ≡ k.serial
  pub stopped : l.stopped ≡ k.stopped
  pub history : l.history ≡ k.history
  pub unknown_inodes : l.unknown_inodes ≡ slice_set k.unknown_inodes (i - 1) false
  pub free_inodes : l.free_inodes ≡ slice_set k.free_inodes (i - 1) true
  pub agreement : l.agreement ≡ slice_set k.agreement (i - 1) None
  pub blocks : AreFreed freed k.at.blocks k.free_blocks k.unknown_blocks l.free_blocks l.unknown_blocks

-- whether a home is one of this inode
abbrev pub is_of : ℕ → Option Home → Bool
is_of i None = false
is_of i (Some home) = home.inode == i

-- these are the blocks of an inode
pub record BlocksOf (d : DiskState) (at : SuperBlock) (i : ℕ) (freed : List Bool) : Type 0 where
  pub size : length freed ≡ at.blocks
  pub in_area : (q : ℕ) → is_set freed q ≡ true → 1 + at.inodes / 4 ≤ q
  pub owned : IsTrue d.tells
      → agreed (files_in d.now) i ≡ true → (q : ℕ) → q < at.blocks → is_set freed q ≡ is_of i (owner d.now q)

-- the inode loses its last name
abbrev pub LosesName : DiskState → Books → ℕ → ℕ → Paired → Type 0
LosesName d k i g q = IsTrue d.tells → KnownTrue k d.now → (F : Files) → FilesMatch F d.now
    → is_gone (drop_meta F q.inode (link_to i q.entry g)) ≡ true
