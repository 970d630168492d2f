-- What a step takes of the books of a mount, and how they go on after it.
use Rattle.std.specs.Prelude.{◌≡◌, ◌+◌, ◌<◌, ◌≤◌}
use Rattle.nofs_disk.specs.Disk.{DiskState}
use Rattle.nofs_state.specs.Books.Maps.{IsSafe}
use Rattle.nofs_state.specs.declared.books.maps.Books.{Books}

-- these books can take a step over this disk
pub record CanStep (d : DiskState) (k : Books) : Type 0 where
  -- what they say of the disk is in its ranges
  pub safe : IsSafe d k
  -- there is memory for one entry
  pub room : 0 < k.history.spare

-- a step over a disk that is `d` after it made these books of those
pub record BooksGoOn (d : DiskState) (k l : Books) : Type 0 where
  -- they are safe again
  pub safe : IsSafe d l
  -- they are of the same mount: where its history begins, and the numbers of its disk
  pub same : (l.history.start ≡ k.history.start) × (l.at ≡ k.at)
  -- it took the memory of one entry at most
  pub room : k.history.spare ≤ l.history.spare + 1
