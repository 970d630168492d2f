-- Cells that lie one after the other in the bytes of a file (docs/FORMAT.md, "Cells").
use Rattle.std.specs.Prelude.{◌≡◌, ℕ, ◌+◌, ◌-◌, ◌*◌, ◌<◌, ◌≤◌, List, length, map, take, drop, refl}
use Rattle.std.specs.Prelude.{slice_index, slice_range}
use Rattle.std.specs.List.{range_with_len}
use Rattle.std.proofs.Common.{arith, sym, ap, ◌∙◌, inl, inr}
use Rattle.std.proofs.Math.ListN.{get_or-eq_default}
use Rattle.std.proofs.lemmas.Bool.{cases_lt}
use Rattle.std.proofs.lemmas.List.{ext_get_or, get_or-drop, get_or-take, length-drop, length-take-le}
use Rattle.std.proofs.lemmas.List.FromFn.{get_or-map-range_with_len, length-map-range_with_len}
use Rattle.nofs_disk.specs.declared.tag.Cell.{Cell}
use Rattle.nofs_disk.specs.Disk.{IsSizedCell, cell_at, no_cell}
use Rattle.nofs_disk.specs.Number.{IsBytes}

-- so many bytes from a place on, with zeros past the end
unfoldable pub part_of : List ℕ → ℕ → ℕ → List ℕ
part_of bytes at n = map (slice_index bytes) (range_with_len at n)

-- the cell of a block
unfoldable pub cell_in : List ℕ → ℕ → Cell
cell_in bytes block =
    record { payload = part_of bytes (1056 * block) 1024; tag = part_of bytes (1056 * block + 1024) 32 }

-- the cells of the first blocks
unfoldable pub first_cells : List ℕ → ℕ → List Cell
first_cells bytes blocks = map (cell_in bytes) (range_with_len 0 blocks)

-- the cells of all 1,048,576 blocks
unfoldable pub cells_in : List ℕ → List Cell
cells_in bytes = first_cells bytes 1048576

-- bytes that are those from a place on
pub part-is : (bytes part : List ℕ) (at n : ℕ)
    → length part ≡ n → ((k : ℕ) → k < n → slice_index bytes (at + k) ≡ slice_index part k) → part_of bytes at n ≡ part
unfolding part_of
part-is bytes part at n size same =
    let len = length-map-range_with_len (slice_index bytes) at n in
    ext_get_or 0 (part_of bytes at n) part (len ∙ sym size) (λ k low.
    let small : k < n = omega arith in
    get_or-map-range_with_len (slice_index bytes) at n k (at + k) 0 small refl ∙ same k small)

-- bytes that are all there
pub part-range : (bytes : List ℕ) (at n : ℕ)
    → at + n ≤ length bytes → slice_range bytes at (at + n) ≡ part_of bytes at n
part-range bytes at n fits =
    let cut : at + n - at ≡ n = omega arith in
    let rest = length-drop at bytes in
    let len : length (take n (drop at bytes)) ≡ n = length-take-le n (drop at bytes) (omega arith) in
    ap (λ k. take k (drop at bytes)) cut
    ∙ sym (part-is bytes (take n (drop at bytes)) at n len
    (λ k low. sym (get_or-take n (drop at bytes) k 0 low ∙ get_or-drop at bytes k 0)))

-- the cells, each at its place
length-first_cells : (bytes : List ℕ) (n : ℕ) → length (first_cells bytes n) ≡ n
unfolding first_cells
length-first_cells bytes n = length-map-range_with_len (cell_in bytes) 0 n

at-first_cells : (bytes : List ℕ) (n b : ℕ) → b < n → cell_at (first_cells bytes n) b ≡ cell_in bytes b
unfolding first_cells
at-first_cells bytes n b low = get_or-map-range_with_len (cell_in bytes) 0 n b b no_cell low (omega arith)

pub length-cells_in : (bytes : List ℕ) → length (cells_in bytes) ≡ 1048576
unfolding cells_in
length-cells_in bytes = length-first_cells bytes 1048576

pub at-cells_in : (bytes : List ℕ) (b : ℕ) → b < 1048576 → cell_at (cells_in bytes) b ≡ cell_in bytes b
unfolding cells_in
at-cells_in bytes b low = at-first_cells bytes 1048576 b low

-- a part of bytes below 256 is some, and a cell of them is one
pub IsBytes-part_of : (bytes : List ℕ) (at n : ℕ) → ((k : ℕ) → slice_index bytes k < 256)
    → IsBytes n (part_of bytes at n)
unfolding part_of
IsBytes-part_of bytes at n small =
    let len = length-map-range_with_len (slice_index bytes) at n in
    record {
      len = len;
      each = λ k. elim (cases_lt k n) [
        | inl low ↦
            let e = get_or-map-range_with_len (slice_index bytes) at n k (at + k) 0 low refl in
            let s = small (at + k) in
            below e s
        | inr past ↦
            let e = get_or-eq_default (map (slice_index bytes) (range_with_len at n)) 0 {n = k} (omega arith) in
            below e (omega arith)
      ];
    }
  where
    below : {x y : ℕ} → x ≡ y → y < 256 → x < 256
    below e low = omega arith

pub IsSizedCell-cell_in : (bytes : List ℕ) (b : ℕ) → ((k : ℕ) → slice_index bytes k < 256)
    → IsSizedCell (cell_in bytes b)
unfolding cell_in
IsSizedCell-cell_in bytes b small = record {
  payload = IsBytes-part_of bytes (1056 * b) 1024 small;
  tag = IsBytes-part_of bytes (1056 * b + 1024) 32 small;
}
