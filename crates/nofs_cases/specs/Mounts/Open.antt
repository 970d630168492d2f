-- A mount that is open: what its invariant says over a disk that tells and was found sound, where no write has failed.
use Rattle.std.specs.Prelude.{◌≡◌, ℕ, ◌-◌}
use Rattle.nofs_bits.specs.Bits.{is_set}
use Rattle.nofs_disk.specs.Disk.{DiskState}
use Rattle.nofs_super.specs.Raise.{raised}
use Rattle.nofs_model.specs.Geometry.{Image, super_at}
use Rattle.nofs_model.specs.Sound.{IsSound}
use Rattle.nofs_history.specs.World.{World}
use Rattle.nofs_history.specs.Good.{IsGood}
use Rattle.nofs_state.specs.Books.Maps.{knows_block, knows_inode}
use Rattle.nofs_state.specs.Cores.Invariant.{IsOpen, Past, Sounds}
use Rattle.nofs_state.specs.declared.books.maps.Books.{Books}

-- the maps of the core are right for the disk: what they have as free the scan has as not used
abbrev pub MapsGood : Books → World → Image → Type 0
MapsGood k W X =
    IsGood W (knows_inode k) (λ i. is_set k.free_inodes (i - 1)) (knows_block k) (λ p. is_set k.free_blocks p) X

-- `found` is the disk as the mount found it, `d` the disk now
pub record StandsOpen (found d : DiskState) (first : ℕ) (k : Books) : Type 0 where
  pub past : Past
  pub base : past.base ≡ d.was k.history.start
  pub serial : past.first ≡ first
  pub raised : k.at ≡ raised (super_at found.now)
  pub now : IsOpen d k k.history.entries past
  pub good : MapsGood k past.world d.now
  -- the next mount finds a sound disk, whenever this one ends
  pub sound : Sounds found.moment d

-- each image that a crash leaves now is sound
abbrev pub LeavesSound : DiskState → Type 0
LeavesSound d = (X : Image) → d.left d.moment X → IsSound X
