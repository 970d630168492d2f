-- What each call does that reads or puts pages by their numbers.
use Rattle.std.specs.Prelude.{◌≡◌, ℕ, ◌+◌, ◌*◌, ◌^◌, ◌<◌, ◌≤◌, ◌⊎◌, Bool, IsTrue, List, length, slice_index}
use Rattle.std.specs.Prelude.{Result, IfOk, OnOk, OnErr}
use Rattle.nofs_disk.specs.Disk.{Rose}
use Rattle.nofs_disk.specs.declared.Failed.{Failed}
use Rattle.nofs_pages.specs.Views.{ShowsCells, StoreState}

-- what holds of all pages
pub record IsStore (s : StoreState) : Type 0 where
  -- each of their bytes is one
  pub small : (k : ℕ) → slice_index s.bytes k < 256

-- a call changes nothing but the count of faults
pub record KeepsCells (old new : StoreState) : Type 0 where
  pub tells : new.tells ≡ old.tells
  pub faults : old.faults ≤ new.faults
  pub bytes : IsTrue old.tells → (k : ℕ) → slice_index new.bytes k ≡ slice_index old.bytes k

-- `show(first, count, into, to)`: the cells of some pages, from a place on; none where they can't be told
pub record Shows (old new : StoreState) (first count to : ℕ) (areas into : List ℕ) (result : Result Bool Failed)
    : Type 0 where
  pub keeps : KeepsCells old new
  pub len : length into ≡ length areas
  pub cells : IfOk result (λ all. IsTrue all → IsTrue old.tells
      → ShowsCells (slice_index old.bytes) first count to areas into)
  pub cause : OnErr result (Rose old.faults new.faults)
  pub no_fault : OnOk result (new.faults ≡ old.faults)

-- `put(first, count, areas)`: the pages have these cells, and others stay; where it fails those may have any
pub record Puts (old new : StoreState) (first count : ℕ) (areas : List ℕ) (result : Result (Unit {0}) Failed)
    : Type 0 where
  pub tells : new.tells ≡ old.tells
  pub faults : old.faults ≤ new.faults
  pub inside : OnOk result (IsTrue old.tells → (k : ℕ) → k < 3168 * count
      → slice_index new.bytes (3168 * first + k) ≡ slice_index areas k)
  pub others : IsTrue old.tells → (k : ℕ) → (k < 3168 * first) ⊎ (3168 * first + 3168 * count ≤ k)
      → slice_index new.bytes k ≡ slice_index old.bytes k
  pub cause : OnErr result (Rose old.faults new.faults)
  pub no_fault : OnOk result (new.faults ≡ old.faults)

-- `sync()`: what they have is durable; where it fails, perhaps a part of it
pub record SyncsPages (old new : StoreState) (result : Result (Unit {0}) Failed) : Type 0 where
  pub keeps : KeepsCells old new
  pub cause : OnErr result (Rose old.faults new.faults)
  pub no_fault : OnOk result (new.faults ≡ old.faults)
