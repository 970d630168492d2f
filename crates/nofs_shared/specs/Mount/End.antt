-- What a mount gives at its end.
use Rattle.std.specs.Prelude.{◌≡◌, ◌≢◌, ℕ, ◌+◌, ◌-◌, ◌^◌, ◌≤◌, min, Bool, false, true, List, [], ◌∷◌, ◌++◌, Contains}
use Rattle.std.specs.Prelude.{slice_set}
use Rattle.nofs_disk.specs.Disk.{DiskState, IsSameDisk, Picks}
use Rattle.nofs_super.specs.Format.{super_cell}
use Rattle.nofs_super.specs.Raise.{raised}
use Rattle.nofs_disk.specs.declared.tag.Pointer.{Pointer}
use Rattle.nofs_model.specs.Geometry.{Image, super_at}
use Rattle.nofs_model.specs.Sound.{IsSound}
use Rattle.nofs_history.specs.World.{World, world_of, is_free_block, is_free_inode}
use Rattle.nofs_history.specs.Claims.{claimed_blocks}
use Rattle.nofs_history.specs.Next.{Run, IsAfter}
use Rattle.nofs_history.specs.Allowed.{IsAllowed}
use Rattle.nofs_history.specs.Since.{agreed_files}
use Rattle.nofs_history.specs.HistoryState.{HistoryState}
use Rattle.nofs_history.specs.declared.machine.history.Entry1.{Entry1}
use Rattle.nofs_shared.specs.Mount.Images.{ImagesAlong, IsOfImage, OnlyFlushesFailed}
use Rattle.nofs_shared.specs.Mount.Forms.{ExactCalls, Forms, OnlyCalls, faults_in}
use Rattle.nofs_shared.specs.Mount.Invariant.{IsFound, IsSoundDisk}

-- what an entry claims was known and free in the machine's world before it
pub record EntryClaimsFree (W : World) (e : Entry1) : Type 0 where
  pub blocks : (x : Pointer) → Contains (claimed_blocks e.claims) x → is_free_block W x.block ≡ true
  pub inode : e.claims.inode ≢ 0 → is_free_inode W e.claims.inode ≡ true

-- each entry of a run claims so
abbrev pub AllClaimsFree : ℕ → World → List Entry1 → Type 0
AllClaimsFree start W H = (before after : List Entry1) (e : Entry1)
    → H ≡ before ++ e ∷ after → (U : World) × Run start W before U × EntryClaimsFree U e

-- What the history and the images of the disk say. `found` is the disk as the mount found it, `last` the disk at its
-- end
pub record Contents (found last : DiskState) (first : ℕ) (h : HistoryState) : Type 0 where
  -- the base is the disk that was found, with the mount number raised
  pub base : Image
  pub base_was : base ≡ last.was h.start
  pub base_is : base ≡ slice_set found.now 0 (super_cell (raised (super_at found.now)))
  -- the replies are the machine's
  pub world : World
  pub run : IsAfter base first h world
  -- at each moment since the mount, a crash leaves only what is allowed then
  pub allowed : (m : ℕ) (X : Image) → h.start ≤ m → m ≤ last.moment → last.left m X → IsAllowed base h.entries m X
  -- and before it, the disk as it was found but for block 0
  pub before : (m : ℕ) (X : Image) → found.moment ≤ m → m ≤ h.start → last.left m X
      → IsFound (raised (super_at found.now)) found X
  -- each entry wrote exactly the cells that its step asks for, by the files before it, and no other call was made
  pub calls : ExactCalls (agreed_files base) h.start last.moment h.entries
  -- what is claimed had no owner: in the machine's world, and on the disk, by what a read gave before each entry, which
  -- was as the machine's world there says
  pub claims : AllClaimsFree h.start (world_of base first) h.entries
  pub along : ImagesAlong [] (world_of base first) base h.entries world last.now
  -- a read gives the machine's files and owners at the end, unless a write failed; a flush may have
  pub machine : OnlyFlushesFailed h.entries → IsOfImage world last.now
  -- the next mount finds a sound disk, whenever this one ends
  pub sound : (m : ℕ) (X : Image) → found.moment ≤ m → m ≤ last.moment → last.left m X → IsSound X
  pub next : (X : Image) → Picks last.may last.blocks X → IsSound X

-- What a mount gives at its end: the form of the history over any disk, and the contents over one that tells and was
-- found sound
pub record Ends (found last : DiskState) (first : ℕ) (h : HistoryState) : Type 0 where
  pub disk : IsSameDisk found last
  pub began : h.start ≡ found.moment + 4
  pub stopped : Bool
  pub forms : Forms h.start false h.entries last.moment stopped
  -- no step orders its writes: the only flushes since the mount's are those of the Flush steps
  pub calls : OnlyCalls h.start last.moment h.entries
  pub faults : min (found.faults + faults_in h.entries) (2 ^ 64 - 1) ≤ last.faults
  pub contents : IsSoundDisk found → Contents found last first h
