-- How many cells a new entry writes, by what stands in its slot.
use Rattle.std.proofs.Common.{◌≡◌, ℕ, ◌+◌, ◌-◌, ◌<◌, ◌≤◌, Bool, true, false, cond, eqb, ne_eqb, [], ◌∷◌, length}
use Rattle.std.proofs.Common.{refl, sym, ◌∙◌, arith}
use Rattle.nofs_disk.specs.declared.tag.Cell.{Cell}
use Rattle.nofs_ptrs.specs.Paths.{InRecord, Path, Under, leaf, path_of}
use Rattle.nofs_model.specs.Geometry.{in_one_table_cell}
use Rattle.nofs_ptrs.specs.PathLaws.{path-direct, path-leaf}
use Rattle.nofs_history.specs.Claims.{claimed_blocks, is_claimed}
use Rattle.nofs_history.specs.Writes.{name_cells}
use Rattle.nofs_history.specs.declared.machine.history.Claims.{Claims}
use Rattle.nofs_names.specs.Entries.Tables.{table_block}
use Rattle.nofs_names.specs.Entries.Writes.{table_writes}
use Rattle.nofs_names.specs.declared.entries.writes.Tables.{Tables}

-- one block is claimed, or two

one-long : (c : Claims) → 0 < c.cell.block → is_claimed c.leaf ≡ false → is_claimed c.top ≡ false
    → 1 ≡ length (claimed_blocks c)
one-long c low b d =
    let a : eqb c.cell.block 0 ≡ false = ne_eqb c.cell.block 0 (λ e. omega (arith, low, e)) in rw (a, b, d) refl

two-long : (c : Claims) → 0 < c.cell.block → 0 < c.leaf.block → is_claimed c.top ≡ false
    → 2 ≡ length (claimed_blocks c)
two-long c low low2 d =
    let a : eqb c.cell.block 0 ≡ false = ne_eqb c.cell.block 0 (λ e. omega (arith, low, e)) in
    let b : eqb c.leaf.block 0 ≡ false = ne_eqb c.leaf.block 0 (λ e. omega (arith, low2, e)) in
    rw (a, b, d) refl

-- the same number by other words
named : (d i m n : ℕ) (way path : Path) → m ≡ n → way ≡ path → name_cells m d i way ≡ name_cells n d i path
named d i m n way path em ep = λ j. name_cells (em j) d i (ep j)

module _ (c : Claims) (k d i : ℕ) (no_top : is_claimed c.top ≡ false) (low : 0 < c.cell.block) where
  -- a hole of the record
  pub count-direct : (b : ℕ) (cell : Cell) (t : Tables) → is_claimed c.leaf ≡ false → k < 8
      → length {A = ℕ × Cell} ((b, cell) ∷ table_writes d i t) ≡ name_cells (length (claimed_blocks c)) d i (path_of k)
  count-direct b cell t none small = go (in_one_table_cell d i)
      ∙ named d i 1 (length (claimed_blocks c)) (InRecord k) (path_of k) (one-long c low none no_top)
      (sym (path-direct k small))
    where
      go : (u : Bool) → length {A = ℕ × Cell} ((b, cell) ∷ cond u ((table_block i, t.inode) ∷ [])
          ((table_block d, t.directory) ∷ (table_block i, t.inode) ∷ [])) ≡ 1 + 1 + cond u 0 1
      go true = refl
      go false = refl

  -- a hole under a leaf that holds
  pub count-under : is_claimed c.leaf ≡ false → 8 ≤ k → k < 72
      → 3 ≡ name_cells (length (claimed_blocks c)) d i (path_of k)
  count-under none high below =
      named d i 1 (length (claimed_blocks c)) (Under leaf (k - 8)) (path_of k) (one-long c low none no_top)
      (sym (path-leaf k high below))

  -- a hole where there is no leaf
  pub count-with : (b n : ℕ) (cell u : Cell) (t : Tables) → 0 < c.leaf.block → 8 ≤ k → k < 72
      → length {A = ℕ × Cell} ((b, cell) ∷ (n, u) ∷ table_writes d i t)
      ≡ name_cells (length (claimed_blocks c)) d i (path_of k)
  count-with b n cell u t low2 high below = go (in_one_table_cell d i)
      ∙ named d i 2 (length (claimed_blocks c)) (Under leaf (k - 8)) (path_of k) (two-long c low low2 no_top)
      (sym (path-leaf k high below))
    where
      go : (w : Bool) → length {A = ℕ × Cell} ((b, cell) ∷ (n, u) ∷ cond w ((table_block i, t.inode) ∷ [])
          ((table_block d, t.directory) ∷ (table_block i, t.inode) ∷ [])) ≡ 1 + 2 + cond w 0 1
      go true = refl
      go false = refl
