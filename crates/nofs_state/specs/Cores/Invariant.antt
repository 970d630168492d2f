-- What a mount stands on between two steps: the ONE invariant, over a disk that tells.
use Rattle.std.specs.Prelude.{◌≡◌, ℕ, ◌≤◌, true, false, List, [], ◌∷◌, None}
use Rattle.nofs_disk.specs.Disk.{DiskState, Picks}
use Rattle.nofs_disk.specs.Moments.{AtEach}
use Rattle.nofs_model.specs.Geometry.{Image, super_at, is_mountable}
use Rattle.nofs_model.specs.Sound.{IsSound}
use Rattle.nofs_history.specs.World.{World, world_of}
use Rattle.nofs_history.specs.Claims.{next_stamp}
use Rattle.nofs_history.specs.Next.{Run}
use Rattle.nofs_history.specs.History.{NoWriteFault}
use Rattle.nofs_history.specs.Since.{agreed_files, files_along}
use Rattle.nofs_history.specs.Steady.{SteadyRest}
use Rattle.nofs_history.specs.declared.machine.history.Entry1.{Entry1}
use Rattle.nofs_crashlaw.specs.Maps.Homes.{HomesMatch}
use Rattle.nofs_crashlaw.specs.Histories.Stage.{Lasts, Stage}
use Rattle.nofs_state.specs.Books.Maps.{Says}
use Rattle.nofs_state.specs.declared.books.maps.Books.{Books}

-- what the next mount asks: every image that picks from what may be left is sound, and so is each that a crash may have
-- left at a moment from this one on
pub record Sounds (from : ℕ) (d : DiskState) : Type 0 where
  pub picks : (X : Image) → Picks d.may d.blocks X → IsSound X
  pub images : AtEach (λ m X. IsSound X) from d

-- what only proofs know of a mount: the disk as its flush left it, with the raised number, its first serial, the disk
-- that the last flush left with a bound above its stamps, and the machine's world
pub record Past : Type 0 where
  pub base : Image
  pub first : ℕ
  pub mark : Image
  pub stamps : ℕ
  pub world : World

-- the moment at which the last entry ended
abbrev pub ends_at : ℕ → List Entry1 → ℕ
ends_at start [] = start
ends_at start (e ∷ es) = ends_at e.to es

-- the history is a run of the machine, up to this moment
pub record IsRun (d : DiskState) (k : Books) (H : List Entry1) (p : Past) : Type 0 where
  pub run : Run k.history.start (world_of p.base p.first) H p.world
  pub ends : ends_at k.history.start H ≡ d.moment

-- No write has failed: the next step may begin
pub record IsOpen (d : DiskState) (k : Books) (H : List Entry1) (p : Past) : Type 0 where
  pub run : IsRun d k H p
  pub going : k.stopped ≡ false
  pub says : Says k p.world
  pub at : super_at d.now ≡ k.at
  pub mountable : is_mountable d.now ≡ true
  pub files : p.world.files ≡ files_along (agreed_files p.base) H
  pub homes : HomesMatch p.world d.now
  pub homes_past : (b : ℕ) → p.world.blocks ≤ b → p.world.homes b ≡ None
  pub stage : Stage p.base H p.mark p.stamps k.history.start (next_stamp p.world) d
  -- the mark's stamps are older than the next one
  pub older : p.stamps ≤ next_stamp p.world
  pub rest : SteadyRest p.base H d.now
  pub no_fault : NoWriteFault H

-- A write has failed: all that a crash may leave stays allowed
pub record IsStopped (d : DiskState) (k : Books) (H : List Entry1) (p : Past) : Type 0 where
  pub run : IsRun d k H p
  pub stopped : k.stopped ≡ true
  pub world_stopped : p.world.stopped ≡ true
  pub lasts : Lasts p.base H p.mark p.stamps k.history.start d

-- what a mount of this base stands on, with the history in its core
pub data Stands (d : DiskState) (k : Books) (base : Image) (first : ℕ) : Type 0 where
  going : (p : Past) → p.base ≡ base → p.first ≡ first → IsOpen d k k.history.entries p → Stands d k base first
  ended : (p : Past) → p.base ≡ base → p.first ≡ first → IsStopped d k k.history.entries p → Stands d k base first
