-- What a call asked of a device, where it ordered nothing: it wrote these cells alone, or it made one flush and nothing
-- else. That it wrote nothing is `KeepsCells`.
use Rattle.std.specs.Prelude.{◌≡◌, ◌≢◌, ℕ, ◌+◌, ◌*◌, ◌⊎◌, List, [], ◌∷◌, length, Bool, true, false, Result, Ok, Err}
use Rattle.std.specs.Prelude.{Contains, IsTrue, slice_set}
use Rattle.nofs_disk.specs.Disk.{DiskState, IsSettled}
use Rattle.nofs_disk.specs.declared.Failed.{Failed}
use Rattle.nofs_disk.specs.declared.tag.Cell.{Cell}

-- one of these cells of these blocks
abbrev pub OneOf : List (ℕ × Cell) → ℕ → Cell → Type 0
OneOf [] b c = ⊥
OneOf (w ∷ ws) b c = ((b ≡ w.0) × (c ≡ w.1)) ⊎ OneOf ws b c

-- the image after these writes
abbrev pub image_after : List (ℕ × Cell) → List Cell → List Cell
image_after [] X = X
image_after (w ∷ ws) X = image_after ws (slice_set X w.0 w.1)

-- none of these blocks
abbrev pub IsApart : List (ℕ × Cell) → ℕ → Type 0
IsApart [] b = Unit {0}
IsApart (w ∷ ws) b = (b ≢ w.0) × IsApart ws b

-- the cells before the last one are there, and that one may be
abbrev pub IsTried : List (ℕ × Cell) → List Cell → List Cell → Type 0
IsTried [] old new = ⊥
IsTried (w ∷ []) old new = (new ≡ old) ⊎ (new ≡ slice_set old w.0 w.1)
IsTried (w ∷ (v ∷ ws)) old new = IsTried (v ∷ ws) (slice_set old w.0 w.1) new

-- These cells were written, one call a cell, and a call that failed was the last. Nothing else was asked of the device
-- that takes time, and nothing was made durable
pub record OnlyWrites (old new : DiskState) (calls : List (ℕ × Cell)) (failed : Bool) : Type 0 where
  -- each write raises the moment by 2, as each flush does
  pub moment : new.moment ≡ old.moment + 2 * length calls
  -- what any other block may hold stays: a flush would settle it
  pub others : (b : ℕ) → IsApart calls b → new.may b ≡ old.may b
  -- what a block might hold before it may still hold: nothing was made durable
  pub kept : (b : ℕ) (c : Cell) → Contains (old.may b) c → Contains (new.may b) c
  -- what it may hold anew is one of these cells
  pub cells : (b : ℕ) (c : Cell) → Contains (new.may b) c → Contains (old.may b) c ⊎ OneOf calls b c
  -- a read gives all of them, but perhaps that of the call that failed
  pub done : failed ≡ false → new.now ≡ image_after calls old.now
  pub tried : failed ≡ true → IsTried calls old.now new.now
  -- nothing was written out: another block that was dirty is dirty still
  pub dirty : (b : ℕ) → IsApart calls b → Contains old.dirty b → Contains new.dirty b
  -- and so, where writes are kept back, is each block that was written
  pub held : IsTrue old.holds_back → (b : ℕ) (c : Cell) → OneOf calls b c → Contains new.dirty b

-- One flush, and nothing else that takes time: no cell was written
pub record OnlyFlushes (old new : DiskState) (failed : Bool) : Type 0 where
  pub moment : new.moment ≡ old.moment + 2
  pub now : new.now ≡ old.now
  pub done : failed ≡ false → IsSettled new
  pub kept : failed ≡ true → new.may ≡ old.may
  -- nothing is dirty that was not
  pub dirty : (b : ℕ) → Contains new.dirty b → Contains old.dirty b

-- no block is written twice
abbrev pub WritesOnce : List (ℕ × Cell) → Type 0
WritesOnce [] = Unit {0}
WritesOnce (w ∷ ws) = IsApart ws w.0 × WritesOnce ws

-- each block gets one cell: so it is all one in which order they are written
abbrev pub HasOneEach : List (ℕ × Cell) → Type 0
HasOneEach ws = (b : ℕ) (c d : Cell) → OneOf ws b c → OneOf ws b d → c ≡ d

abbrev pub has_failed : Result (Unit {0}) Failed → Bool
has_failed (Ok done) = false
has_failed (Err x) = true
