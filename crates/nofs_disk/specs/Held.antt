-- What a disk holds: its present cells, and for each block those that it may hold.
use Rattle.std.specs.Prelude.{◌≡◌, ◌≢◌, ℕ, ◌<◌, ◌≤◌, ◌==◌, if◌then◌else◌, List, [], ◌∷◌, ◌++◌, length, slice_set}
use Rattle.std.specs.Prelude.{Contains}
use Rattle.std.proofs.lemmas.Bool.{eq-eqb, ne_eqb}
use Rattle.std.proofs.Common.{refl}
use Rattle.nofs_disk.specs.declared.tag.Cell.{Cell}
use Rattle.nofs_disk.specs.Disk.{IsSizedCell, cell_at}

-- the present cells, and for each block the cells that it may hold, in the order in which they came
pub record Held : Type 0 where
  pub now : List Cell
  pub may : ℕ → List Cell

-- a cell was written
abbrev pub written : Held → ℕ → Cell → Held
written held block cell =
    record {
      now = slice_set held.now block cell;
      may = λ b. if b == block then held.may b ++ cell ∷ [] else held.may b;
    }

-- the cells of the block that was written, and of another
pub written_here : (held : Held) (block : ℕ) (cell : Cell)
    → (written held block cell).may block ≡ held.may block ++ cell ∷ []
written_here held block cell = rw (eq-eqb block block refl)

pub written_other : (held : Held) (block b : ℕ) (cell : Cell) → b ≢ block → (written held block cell).may b ≡ held.may b
written_other held block b cell other = rw (ne_eqb b block other)

-- each block may hold its present cell
pub record IsHeld (n : ℕ) (held : Held) : Type 0 where
  pub len : length held.now ≡ n
  pub has_now : (b : ℕ) → b < n → Contains (held.may b) (cell_at held.now b)

-- each cell that may be held is that of a block that is there, and has the bytes of a cell
pub record IsWithin (may : ℕ → List Cell) (blocks : ℕ) : Type 0 where
  pub beyond : (b : ℕ) (c : Cell) → blocks ≤ b → Contains (may b) c → ⊥
  pub sized : (b : ℕ) (c : Cell) → Contains (may b) c → IsSizedCell c
