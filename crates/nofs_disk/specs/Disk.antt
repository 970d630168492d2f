-- What contracts see of a disk, what each of its calls does, and what a crash may leave.
use Rattle.std.specs.Prelude.{◌≡◌, ◌≢◌, ◌↔◌, ℕ, ◌+◌, ◌*◌, ◌-◌, ◌^◌, ◌<◌, ◌≤◌, ◌⊎◌, min, List, [], ◌∷◌, length, Bool}
use Rattle.std.specs.Prelude.{IsTrue, Option, None, Result, Ok, IsOk}
use Rattle.std.specs.Prelude.{IfOk, IfSome, OnOk, OnErr, Contains, IsPermutation, slice_index_or, slice_set}
use Rattle.nofs_disk.specs.Number.{IsBytes}
use Rattle.nofs_disk.specs.declared.Failed.{Failed}
use Rattle.nofs_disk.specs.declared.tag.Cell.{Cell}

-- what stands for the cell of a block that isn't there
abbrev pub no_cell : Cell
no_cell = record { payload = []; tag = [] }

-- a cell has the bytes that its type says
pub record IsSizedCell (cell : Cell) : Type 0 where
  pub payload : IsBytes 1024 cell.payload
  pub tag : IsBytes 32 cell.tag

-- the cell of a block
abbrev pub cell_at : List Cell → ℕ → Cell
cell_at cells block = slice_index_or cells block no_cell

-- for each block one of the cells that it may hold
pub record Picks (may : ℕ → List Cell) (blocks : ℕ) (image : List Cell) : Type 0 where
  pub len : length image ≡ blocks
  pub each : (block : ℕ) → block < blocks → Contains (may block) (cell_at image block)

-- what contracts see of a disk
pub record DiskState : Type 1 where
  -- how many blocks there are
  pub blocks : ℕ
  -- the moment, which each write and flush raises by 2
  pub moment : ℕ
  -- for how many writes, flushes and write-outs there is room
  pub spare : ℕ
  -- how often a call has failed
  pub faults : ℕ
  -- whether the disk tells what it holds
  pub tells : Bool
  -- the cell of each block that a read gives
  pub now : List Cell
  -- for each block the cells of which a crash may leave one
  pub may : ℕ → List Cell
  -- what a read gave at a moment at which a flush ended
  pub was : ℕ → List Cell
  -- what a crash at a moment may leave
  pub left : ℕ → List Cell → Type 0
  -- the blocks that are to be written out
  pub dirty : List ℕ
  -- whether writes are kept back
  pub holds_back : Bool

-- what holds of each disk
pub record IsDisk (d : DiskState) : Type 0 where
  -- each call that has room raises the moment by 2 at most, within 64 bits
  pub room : 2 * d.spare + d.moment < 2 ^ 64
  -- the count of faults is kept in 64 bits
  pub counted : d.faults < 2 ^ 64
  -- where it tells, a read of each block gives one cell, which a crash may leave
  pub whole : IsTrue d.tells → length d.now ≡ d.blocks
  pub has_now : (block : ℕ) → IsTrue d.tells → block < d.blocks → Contains (d.may block) (cell_at d.now block)
  -- nothing lies past the end
  pub beyond : (block : ℕ) (c : Cell) → d.blocks ≤ block → Contains (d.may block) c → ⊥
  -- each cell that may be left has the bytes of a cell
  pub sized : (block : ℕ) (c : Cell) → Contains (d.may block) c → IsSizedCell c
  -- what a crash at the present moment leaves takes for each block a cell that it may hold
  pub at_rest : (image : List Cell) → d.left d.moment image → Picks d.may d.blocks image

-- a count that is kept in 64 bits has risen, or stands at its last value
abbrev pub Rose : ℕ → ℕ → Type 0
Rose before now = min (before + 1) (2 ^ 64 - 1) ≤ now

-- what no call changes
pub record IsSameDisk (old new : DiskState) : Type 0 where
  pub blocks : new.blocks ≡ old.blocks
  pub tells : new.tells ≡ old.tells
  pub holds_back : new.holds_back ≡ old.holds_back
  pub faults : old.faults ≤ new.faults

-- a call leaves the moments up to the one at which it began
pub record KeepsPast (old new : DiskState) : Type 0 where
  pub was : (m : ℕ) → m ≤ old.moment → new.was m ≡ old.was m
  pub no_more : (m : ℕ) (image : List Cell) → m ≤ old.moment → new.left m image → old.left m image
  pub no_less : (m : ℕ) (image : List Cell) → m ≤ old.moment → old.left m image → new.left m image

-- a call leaves the cells, and what a crash may leave of them
pub record KeepsCells (old new : DiskState) : Type 0 where
  pub now : new.now ≡ old.now
  pub may : new.may ≡ old.may
  pub moment : new.moment ≡ old.moment

-- a call changes nothing but the count of faults
pub record StaysButFaults (old new : DiskState) : Type 0 where
  pub disk : IsSameDisk old new
  pub past : KeepsPast old new
  pub cells : KeepsCells old new
  pub dirty : new.dirty ≡ old.dirty
  pub spare : new.spare ≡ old.spare

-- `ready(calls)`: room for so many calls, where it succeeds; nothing else changes
pub record MakesReady {E : Type 0} (old new : DiskState) (calls : ℕ) (result : Result (Unit {0}) E) : Type 0 where
  pub disk : IsSameDisk old new
  pub past : KeepsPast old new
  pub cells : KeepsCells old new
  pub dirty : new.dirty ≡ old.dirty
  pub no_fault : new.faults ≡ old.faults
  pub no_less : old.spare ≤ new.spare
  pub room : OnOk result (calls ≤ new.spare)

-- `read(block, into)`: the cell of the block; nothing changes but, where it fails, the count of faults
pub record Reads (old new : DiskState) (block : ℕ) (into : Cell) (result : Result (Unit {0}) Failed) : Type 0 where
  pub stays : StaysButFaults old new
  pub cell : OnOk result (IsTrue old.tells → into ≡ cell_at old.now block)
  pub cause : OnErr result (Rose old.faults new.faults)
  pub no_fault : OnOk result (new.faults ≡ old.faults)

-- `write(block, cell)`: the block's cell is this one, or, where it fails, may still be the old one; a crash may leave
-- either
pub record Writes (old new : DiskState) (block : ℕ) (cell : Cell) (result : Result (Unit {0}) Failed) : Type 0 where
  pub disk : IsSameDisk old new
  pub past : KeepsPast old new
  pub moment : new.moment ≡ old.moment + 2
  pub spare : new.spare + 1 ≡ old.spare
  pub ok : OnOk result (new.now ≡ slice_set old.now block cell)
  pub err : OnErr result ((new.now ≡ old.now) ⊎ (new.now ≡ slice_set old.now block cell))
  pub may : (c : Cell) → Contains (new.may block) c → Contains (old.may block) c ⊎ (c ≡ cell)
  -- what the block might hold before it may still hold
  pub stays : (c : Cell) → Contains (old.may block) c → Contains (new.may block) c
  pub others : (b : ℕ) → b ≢ block → new.may b ≡ old.may b
  pub during : (image : List Cell) → new.left (old.moment + 1) image → Picks new.may new.blocks image
  pub cause : OnErr result (Rose old.faults new.faults)
  pub no_fault : OnOk result (new.faults ≡ old.faults)
  pub dirty : (b : ℕ) → b ≢ block → Contains new.dirty b ↔ Contains old.dirty b
  pub held : IsTrue old.holds_back → IsOk result × Contains new.dirty block × (new.faults ≡ old.faults)

-- each block may hold its present cell alone
abbrev pub IsSettled : DiskState → Type 0
IsSettled d = (block : ℕ) (c : Cell) → block < d.blocks → Contains (d.may block) c → c ≡ cell_at d.now block

-- `flush()`: a crash leaves what a read gives; where it fails, what it could leave before
pub record Flushes (old new : DiskState) (result : Result (Unit {0}) Failed) : Type 0 where
  pub disk : IsSameDisk old new
  pub past : KeepsPast old new
  pub moment : new.moment ≡ old.moment + 2
  pub spare : new.spare + 1 ≡ old.spare
  pub now : new.now ≡ old.now
  pub may : (b : ℕ) (c : Cell) → b < old.blocks → Contains (new.may b) c → Contains (old.may b) c
  pub settled : OnOk result (IsSettled new)
  pub was : OnOk result (new.was new.moment ≡ old.now)
  pub clean : OnOk result (new.dirty ≡ [])
  pub err : OnErr result (new.may ≡ old.may)
  pub dirty : (b : ℕ) → Contains new.dirty b → Contains old.dirty b
  pub during : (image : List Cell) → new.left (old.moment + 1) image → Picks old.may old.blocks image
  pub cause : OnErr result (Rose old.faults new.faults)
  pub no_fault : OnOk result (new.faults ≡ old.faults)

-- `write_out()`: one dirty block is dirty no more; what a read gives and what a crash may leave stays
pub record WritesOut (old new : DiskState) (result : Result (Option ℕ) Failed) : Type 0 where
  pub disk : IsSameDisk old new
  pub cells : KeepsCells old new
  pub spare : new.spare + 1 ≡ old.spare
  pub was : (m : ℕ) → new.was m ≡ old.was m
  pub no_more : (m : ℕ) (image : List Cell) → m < old.moment → new.left m image → old.left m image
  pub no_less : (m : ℕ) (image : List Cell) → m ≤ old.moment → old.left m image → new.left m image
  pub none : (result ≡ Ok None) ↔ (old.dirty ≡ [])
  pub some : IfOk result (λ out. IfSome out (λ block. IsPermutation (block ∷ new.dirty) old.dirty))
  pub clean : result ≡ Ok None → new.dirty ≡ []
  pub err : OnErr result (new.dirty ≡ old.dirty)
  pub cause : OnErr result (Rose old.faults new.faults)
  pub no_fault : OnOk result (new.faults ≡ old.faults)
