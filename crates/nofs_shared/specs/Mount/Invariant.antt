-- What a mount stands on: the ONE invariant of it, from its beginning on.
use Rattle.std.specs.Prelude.{◌≡◌, ◌⊎◌, ℕ, ◌+◌, ◌-◌, ◌^◌, ◌<◌, ◌≤◌, min, false, [], length, IsTrue, slice_set}
use Rattle.nofs_disk.specs.Disk.{DiskState, IsSameDisk, Picks, cell_at}
use Rattle.nofs_disk.specs.Adds.{WasOr}
use Rattle.nofs_super.specs.Format.{super_cell}
use Rattle.nofs_super.specs.Raise.{IsSuperCell, raised}
use Rattle.nofs_super.specs.declared.superblock.SuperBlock.{SuperBlock}
use Rattle.nofs_model.specs.Geometry.{Image, super_at}
use Rattle.nofs_model.specs.Sound.{IsSound}
use Rattle.nofs_history.specs.Allowed.{IsAllowed}
use Rattle.nofs_history.specs.Since.{agreed_files}
use Rattle.nofs_history.specs.World.{world_of}
use Rattle.nofs_state.specs.Books.Maps.{IsSafe}
use Rattle.nofs_state.specs.Cores.Invariant.{IsOpen, IsStopped, Past, Sounds}
use Rattle.nofs_state.specs.declared.books.maps.Books.{Books}
use Rattle.nofs_shared.specs.Mount.Images.{ImagesAlong, IsOfImage, OnlyFlushesFailed}
use Rattle.nofs_shared.specs.Mount.Forms.{ExactCalls, Forms, faults_in}

-- The premise of every promise on contents: the disk tells, and each image that picks from what it may hold is sound
pub record IsSoundDisk (d : DiskState) : Type 0 where
  pub tells : IsTrue d.tells
  pub sound : (X : Image) → Picks d.may d.blocks X → IsSound X

-- an image of the disk as it was found, but that block 0 may have the raised superblock
abbrev pub IsFound : SuperBlock → DiskState → Image → Type 0
IsFound at found X = (length X ≡ found.blocks)
    × ((b : ℕ) → b < found.blocks → WasOr (IsSuperCell at) found b (cell_at X b))

-- The mount: the base is the disk that was found with the raised superblock, and until the first step a crash leaves
-- an image of the disk as it was found, but for block 0
pub record IsMounted (found d : DiskState) (start : ℕ) (at : SuperBlock) : Type 0 where
  pub begun : start ≡ found.moment + 4
  pub base : d.was start ≡ slice_set found.now 0 (super_cell at)
  pub before : (m : ℕ) (X : Image) → found.moment ≤ m → m ≤ start → d.left m X → IsFound at found X
  -- and until the disk is written to, each image that picks from what may be left is one
  pub resting : d.moment ≡ start → (X : Image) → Picks d.may d.blocks X → IsFound at found X

-- over a disk that tells and was found sound: what holds between two steps, or after a fault of writing
pub record MountStands (found d : DiskState) (first : ℕ) (k : Books) : Type 0 where
  pub past : Past
  pub base : past.base ≡ d.was k.history.start
  pub serial : past.first ≡ first
  pub raised : k.at ≡ raised (super_at found.now)
  pub now : IsOpen d k k.history.entries past ⊎ IsStopped d k k.history.entries past
  pub sound : Sounds found.moment d
  -- what a read gave before each entry, beside the machine's world there
  pub along : ImagesAlong [] (world_of past.base past.first) past.base k.history.entries past.world d.now
  -- and what it gives is the machine's
  pub machine : OnlyFlushesFailed k.history.entries → IsOfImage past.world d.now
  -- the history tells of every call that takes time
  pub calls : ExactCalls (agreed_files past.base) k.history.start d.moment k.history.entries
  -- each image that picks from what may be left is allowed now: so it stays when a crash may leave it
  pub rests : (X : Image) → Picks d.may d.blocks X → IsAllowed past.base k.history.entries d.moment X

-- the invariant of a mount over the disk `found`: the first parts over any disk, the last one over a disk that tells
-- and was found sound
pub record IsMount (found d : DiskState) (first : ℕ) (k : Books) : Type 0 where
  pub safe : IsSafe d k
  pub disk : IsSameDisk found d
  pub mounted : IsMounted found d k.history.start k.at
  pub forms : Forms k.history.start false k.history.entries d.moment k.stopped
  pub counted : min (found.faults + faults_in k.history.entries) (2 ^ 64 - 1) ≤ d.faults
  pub stands : IsSoundDisk found → MountStands found d first k
