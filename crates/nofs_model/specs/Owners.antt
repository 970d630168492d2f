-- Owners of blocks, and the scan of an image.
use Rattle.std.specs.Prelude.{◌≡◌, ◌≢◌, ℕ, ◌-◌, ◌/◌, ◌<◌, ◌≤◌, Bool, true, List, length, ◌&&◌, ◌||◌, Option, Some, None}
use Rattle.std.specs.Prelude.{is_some, if◌then◌else◌, nat_le, ◌==◌}
use Rattle.nofs_disk.specs.declared.tag.Tag.{Tag}
use Rattle.nofs_disk.specs.declared.tag.Pointer.{Pointer}
use Rattle.nofs_disk.specs.Tag.{tag_of}
use Rattle.nofs_bits.specs.Bits.{is_set}
use Rattle.nofs_model.specs.Geometry.{Image, super_at, inodes_of, blocks_of}
use Rattle.nofs_disk.specs.Disk.{cell_at}
use Rattle.nofs_ptrs.specs.Paths.{Path, IsSlot, is_slot, path_of}
use Rattle.nofs_model.specs.Slots.{find}
use Rattle.nofs_model.specs.Files.{files_in, agreed, is_special}
use Rattle.nofs_model.specs.declared.image.path.PathAnswer.{PathAnswer}
use Rattle.nofs_model.specs.declared.image.path.PathAnswer.TheVariants as answer

-- block p belongs to this slot of inode i
pub record Owns (X : Image) (i : ℕ) (path : Path) (p : ℕ) : Type 0 where
  pub agreed : agreed (files_in X) i ≡ true
  pub pointer : Pointer
  pub holds : find X i path ≡ answer.Holds pointer
  pub names : pointer.block ≡ p

-- no agreed inode has this block in the image
abbrev pub IsFree : Image → ℕ → Type 0
IsFree X b = (i : ℕ) (path : Path) (x : Pointer) → IsSlot path
    → agreed (files_in X) i ≡ true → find X i path ≡ answer.Holds x → x.block ≢ b

-- the slot that has a block
pub record Home : Type 0 where
  pub inode : ℕ
  pub slot : ℕ

abbrev pub home_at : ℕ → ℕ → Home
home_at i k = record { inode = i; slot = k }

-- its inode and its slot, as the program answers them
abbrev pub inode_and_slot : Option Home → Option (ℕ × ℕ)
inode_and_slot None = None
inode_and_slot (Some h) = Some (h.inode, h.slot)

abbrev pub owner_found : Image → ℕ → Tag → PathAnswer → Option Home
owner_found X p t answer.Hole = None
owner_found X p t (answer.Holds x) = if (x.block == p) && agreed (files_in X) t.inode
    then Some (home_at t.inode t.slot) else None
owner_found X p t answer.Lost = None

-- a tag can have a number that is no slot's
abbrev pub owner_by : Image → ℕ → Option Tag → Option Home
owner_by X p None = None
owner_by X p (Some t) = if is_slot t.slot then owner_found X p t (find X t.inode (path_of t.slot)) else None

-- the owner of block p: the slot that its tag names, where that one holds and names p
unfoldable pub owner : Image → ℕ → Option Home
owner X p = owner_by X p (tag_of (cell_at X p).tag)

-- the superblock and the inode table
abbrev pub is_fixed_block : Image → ℕ → Bool
is_fixed_block X p = nat_le p ((super_at X).inodes / 4)

-- the scan: the used inodes are the agreed ones and 1 and 2
abbrev pub is_used_inode : Image → ℕ → Bool
is_used_inode X i = is_special i || agreed (files_in X) i

-- and the used blocks those with an owner and the fixed ones
abbrev pub is_used_block : Image → ℕ → Bool
is_used_block X p = is_fixed_block X p || is_some (owner X p)

-- the bits of a scan say for each inode and for each block whether it is used; bit i - 1 is inode i
pub record IsScan (X : Image) (inode_bits block_bits : List Bool) : Type 0 where
  pub all_inodes : length inode_bits ≡ inodes_of X
  pub inodes : (i : ℕ) → 1 ≤ i → i ≤ inodes_of X → is_set inode_bits (i - 1) ≡ is_used_inode X i
  pub all_blocks : length block_bits ≡ blocks_of X
  pub blocks : (p : ℕ) → p < blocks_of X → is_set block_bits p ≡ is_used_block X p
