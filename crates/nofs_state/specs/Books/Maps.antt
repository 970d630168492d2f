-- What the maps of a mount say of the machine's world.
use Rattle.std.specs.Prelude.{◌≡◌, ℕ, ◌+◌, ◌-◌, ◌*◌, ◌/◌, ◌^◌, ◌<◌, ◌≤◌, Bool, true, false, ◌&&◌, not, List, [], length}
use Rattle.std.specs.Prelude.{Some, None, is_some, replicate, nat_le, nat_lt, slice_set}
use Rattle.nofs_bits.specs.Bits.{is_set}
use Rattle.nofs_history.specs.HistoryState.{HistoryState}
use Rattle.nofs_disk.specs.Disk.{DiskState}
use Rattle.nofs_disk.specs.declared.tag.Pointer.{Pointer}
use Rattle.nofs_super.specs.declared.superblock.SuperBlock.{SuperBlock}
use Rattle.nofs_history.specs.World.{World, is_free_inode, is_free_block}
use Rattle.nofs_agree.specs.Chain.{known_agreement}
use Rattle.nofs_agree.specs.Reads.{IsAt}
use Rattle.nofs_state.specs.declared.books.maps.Books.{Books}
use Rattle.nofs_state.specs.declared.books.maps.InodeClaim.{InodeClaim}
use Rattle.nofs_state.specs.declared.books.maps.Room.{Room}

-- a map of so many places, of which those from one on are set
pub record MapsAll (places from : ℕ) (bits : List Bool) : Type 0 where
  pub len : length bits ≡ places
  pub each : (n : ℕ) → n < places → is_set bits n ≡ nat_le from n

-- so far the places up to this one are
pub record SetsFrom (places from to : ℕ) (bits : List Bool) : Type 0 where
  pub len : length bits ≡ places
  pub each : (n : ℕ) → n < places → is_set bits n ≡ (nat_le from n && nat_lt n to)

-- the maps of a disk with these numbers, of which only the fixed elements are known
pub record IsRoom (at : SuperBlock) (room : Room) : Type 0 where
  pub unknown_inodes : MapsAll at.inodes 2 room.unknown_inodes
  pub free_inodes : room.free_inodes ≡ replicate at.inodes false
  pub agreement : room.agreement ≡ replicate at.inodes None
  pub unknown_blocks : MapsAll at.blocks (1 + at.inodes / 4) room.unknown_blocks
  pub free_blocks : room.free_blocks ≡ replicate at.blocks false
  pub empty : room.history.entries ≡ []
  pub spare : at.inodes + at.blocks ≤ room.history.spare

-- an inode is on the disk and was examined
abbrev pub knows_inode : Books → ℕ → Bool
knows_inode k i = nat_le 1 i && (nat_le i k.at.inodes && not (is_set k.unknown_inodes (i - 1)))

-- so for a block
abbrev pub knows_block : Books → ℕ → Bool
knows_block k p = nat_lt p k.at.blocks && not (is_set k.unknown_blocks p)

-- what holds over any disk: the maps have the sizes of the disk, and a free block lies in the data area
pub record IsSafe (d : DiskState) (k : Books) : Type 0 where
  pub at : IsAt d k.at
  pub mount : k.at.mount < 2 ^ 24
  pub serial : k.serial ≤ 2 ^ 40
  pub unknown_inodes : length k.unknown_inodes ≡ k.at.inodes
  pub free_inodes : length k.free_inodes ≡ k.at.inodes
  pub agreement : length k.agreement ≡ k.at.inodes
  pub unknown_blocks : length k.unknown_blocks ≡ k.at.blocks
  pub free_blocks : length k.free_blocks ≡ k.at.blocks
  pub in_area : (p : ℕ) → is_set k.free_blocks p ≡ true → 1 + k.at.inodes / 4 ≤ p

-- the map of unknown blocks has the size of the disk
abbrev pub MapsFit : Books → Type 0
MapsFit k = length k.unknown_blocks ≡ k.at.blocks

-- the map of unknown inodes has the size of the disk
abbrev pub InodesFit : Books → Type 0
InodesFit k = length k.unknown_inodes ≡ k.at.inodes

-- the maps and numbers are those of the world
pub record Says (k : Books) (W : World) : Type 0 where
  pub version : W.version ≡ k.at.version
  pub blocks : W.blocks ≡ k.at.blocks
  pub inodes : W.inodes ≡ k.at.inodes
  pub mount : W.mount ≡ k.at.mount
  pub serial : W.serial ≡ k.serial
  pub stopped : W.stopped ≡ k.stopped
  pub known_inodes : (i : ℕ) → W.known_inodes i ≡ knows_inode k i
  pub known_blocks : (p : ℕ) → W.known_blocks p ≡ knows_block k p
  pub free_inodes : (i : ℕ) → 1 ≤ i → i ≤ k.at.inodes → is_set k.free_inodes (i - 1) ≡ is_free_inode W i
  pub free_blocks : (p : ℕ) → p < k.at.blocks → is_set k.free_blocks p ≡ is_free_block W p
  pub agreement : (i : ℕ) (agreed : Bool) → known_agreement k.agreement i ≡ Some agreed → is_some (W.files i) ≡ agreed

-- what a claim of this block gives
abbrev pub claimed_pointer : Books → ℕ → Pointer
claimed_pointer k b = record { block = b; stamp = k.at.mount * 2 ^ 40 + k.serial }

-- and leaves of the books
abbrev pub claimed_books : Books → ℕ → Books
claimed_books k b = record k { free_blocks = slice_set k.free_blocks b false; serial = k.serial + 1 }

-- what a claim of this inode gives
abbrev pub claimed_inode : Books → ℕ → InodeClaim
claimed_inode k i = record { inode = i; generation = k.at.mount * 2 ^ 40 + k.serial }

-- and leaves of the books
abbrev pub made_books : Books → ℕ → Books
made_books k i = record k {
  free_inodes = slice_set k.free_inodes (i - 1) false;
  agreement = slice_set k.agreement (i - 1) (Some true);
  serial = k.serial + 1;
}

-- the books with another history
abbrev pub with_history : Books → HistoryState → Books
with_history k h = record k { history = h }
