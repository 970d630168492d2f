-- What contracts see of a disk that writes nothing out once it was flushed.
use Rattle.std.specs.Prelude.{◌≡◌, ℕ, ◌≤◌, Bool, List, [], if◌then◌else◌, false}
use Rattle.std.proofs.Common.{arith}
use Rattle.nofs_disk.specs.declared.tag.Cell.{Cell}
use Rattle.nofs_disk.specs.Disk.{DiskState, IsDisk}

-- by whether it gathers: it has room for so many calls of its own, and then no block to write out
abbrev pub gathered_state : DiskState → Bool → ℕ → DiskState
gathered_state under gathers spare =
    record under { spare = spare; dirty = if gathers then [] else under.dirty; holds_back = false }

-- what a disk is, holds and may leave at each moment is what the one below is, holds and may leave
pub record StandsFor (below over : DiskState) : Type 0 where
  pub blocks : over.blocks ≡ below.blocks
  pub moment : over.moment ≡ below.moment
  pub faults : over.faults ≡ below.faults
  pub tells : over.tells ≡ below.tells
  pub now : over.now ≡ below.now
  pub may : over.may ≡ below.may
  pub was : over.was ≡ below.was
  pub no_more : (m : ℕ) (image : List Cell) → over.left m image → below.left m image
  pub no_less : (m : ℕ) (image : List Cell) → below.left m image → over.left m image

-- it keeps every law of a disk
pub gathered_is : (under : DiskState) (gathers : Bool) (spare : ℕ) → IsDisk under → spare ≤ under.spare
    → IsDisk (gathered_state under gathers spare)
gathered_is under gathers spare is room =
    let below = is.room in
    record {
      room = omega arith;
      counted = is.counted;
      whole = is.whole;
      has_now = is.has_now;
      beyond = is.beyond;
      sized = is.sized;
      at_rest = is.at_rest;
    }
