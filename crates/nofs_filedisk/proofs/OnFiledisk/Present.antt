-- What reads give, before and after a write.
use Rattle.std.proofs.Common.{◌≡◌, ◌≢◌, ◌⊎◌, ℕ, ◌+◌, ◌-◌, ◌*◌, ◌%◌, ◌<◌, ◌≤◌, max, min, List, length, take, drop, set}
use Rattle.std.proofs.Common.{arith}
use Rattle.std.proofs.Common.{refl, sym, ap, ◌∙◌, inl, inr}
use Rattle.std.specs.Prelude.{slice_index, slice_range}
use Rattle.std.proofs.lemmas.Bool.{cases_eq, cases_lt}
use Rattle.std.proofs.lemmas.List.{ext_get_or, get_or-drop, length-drop, get_or-set_other, get_or-set_same, get_or-take}
use Rattle.std.proofs.lemmas.List.{length-take-le}
use Rattle.std.proofs.lemmas.List.FromFn.{get_or-map-range_with_len, length-map-range_with_len}
use Rattle.nofs_disk.specs.Number.{put_bytes}
use Rattle.nofs_disk.specs.Parts.{length-put_bytes}
use Rattle.nofs_disk.specs.declared.tag.Cell.{Cell}
use Rattle.nofs_disk.specs.Disk.{cell_at, no_cell}
use Rattle.nofs_disk.specs.CellsOfBytes.{at-cells_in, cell_in, cells_in, part-is, part-range, part_of}
use Rattle.nofs_filedisk.specs.Bytes.{IsPartlyPut, IsPut}
use Rattle.nofs_filedisk.specs.Present.{HasPlace, IsPresent, run_bytes}
use Rattle.nofs_filedisk.specs.declared.run.Run.{Run}
use Rattle.nofs_filedisk.proofs.OnMoving.Bytes.{put-before, put-behind, put-inside}

-- the same bytes at another place
part-same : (a b : List ℕ) (p q n : ℕ) → ((k : ℕ) → k < n → slice_index a (p + k) ≡ slice_index b (q + k))
    → part_of a p n ≡ part_of b q n
unfolding part_of
part-same a b p q n same =
    let one = length-map-range_with_len (slice_index a) p n in
    let two = length-map-range_with_len (slice_index b) q n in
    ext_get_or 0 (part_of a p n) (part_of b q n) (one ∙ sym two) (λ k low.
    let small : k < n = omega arith in
    get_or-map-range_with_len (slice_index a) p n k (p + k) 0 small refl ∙ same k small
    ∙ sym (get_or-map-range_with_len (slice_index b) q n k (q + k) 0 small refl))

pub cell-same : (a b : List ℕ) (i j : ℕ)
    → ((k : ℕ) → k < 1056 → slice_index a (1056 * i + k) ≡ slice_index b (1056 * j + k)) → cell_in a i ≡ cell_in b j
unfolding cell_in
cell-same a b i j same =
    let one = part-same a b (1056 * i) (1056 * j) 1024 (λ k low. same k (omega arith)) in
    let two = part-same a b (1056 * i + 1024) (1056 * j + 1024) 32 (λ k low.
    let e : 1056 * i + 1024 + k ≡ 1056 * i + (1024 + k) = omega arith in
    let f : 1056 * j + (1024 + k) ≡ 1056 * j + 1024 + k = omega arith in
    ap (slice_index a) e ∙ same (1024 + k) (omega arith) ∙ ap (slice_index b) f) in
    λ x. record { payload = one x; tag = two x }

-- the cell that was put at its place
pub cell-put : (bytes new : List ℕ) (j at : ℕ) (cell : Cell) → at ≡ 1056 * j → at + 1056 ≤ length bytes
    → length cell.payload ≡ 1024 → length cell.tag ≡ 32
    → new ≡ put_bytes (at + 1024) cell.tag (put_bytes at cell.payload bytes) → cell_in new j ≡ cell
unfolding cell_in
cell-put bytes new j at cell is fits payload tag put =
    let mid = put_bytes at cell.payload bytes in
    let len : length mid ≡ length bytes = length-put_bytes at cell.payload bytes (omega arith) in
    let one = part-is new cell.payload (1056 * j) 1024 payload (λ k low.
    let e : 1056 * j + k ≡ at + k = omega arith in
    ap (λ l. slice_index l (1056 * j + k)) put ∙ ap (slice_index (put_bytes (at + 1024) cell.tag mid)) e
    ∙ put-before (at + 1024) (at + k) cell.tag mid (omega arith) (omega arith)
    ∙ put-inside at k cell.payload bytes (omega arith) (omega arith)) in
    let two = part-is new cell.tag (1056 * j + 1024) 32 tag (λ k low.
    let e : 1056 * j + 1024 + k ≡ at + 1024 + k = omega arith in
    ap (λ l. slice_index l (1056 * j + 1024 + k)) put ∙ ap (slice_index (put_bytes (at + 1024) cell.tag mid)) e
    ∙ put-inside (at + 1024) k cell.tag mid (omega arith) (omega arith)) in
    λ x. record { payload = one x; tag = two x }

-- and any other
pub cell-beside : (bytes new : List ℕ) (j at k : ℕ) (cell : Cell) → at ≡ 1056 * j → at + 1056 ≤ length bytes
    → length cell.payload ≡ 1024
    → length cell.tag ≡ 32 → new ≡ put_bytes (at + 1024) cell.tag (put_bytes at cell.payload bytes)
    → k ≢ j → cell_in new k ≡ cell_in bytes k
cell-beside bytes new j at k cell is fits payload tag put other =
    let mid = put_bytes at cell.payload bytes in
    let len : length mid ≡ length bytes = length-put_bytes at cell.payload bytes (omega arith) in
    cell-same new bytes k k (λ x low.
    ap (λ l. slice_index l (1056 * k + x)) put
    ∙ elim (cases_lt k j) [
      | inl under ↦
          put-before (at + 1024) (1056 * k + x) cell.tag mid (omega arith) (omega arith)
          ∙ put-before at (1056 * k + x) cell.payload bytes (omega arith) (omega arith)
      | inr over ↦
          let above : j < k =
          elim (cases_lt j k) [ inl strictly ↦ strictly | inr same ↦ absurd (other (omega arith)) ] in
          put-behind (at + 1024) (1056 * k + x) cell.tag mid (omega arith) (omega arith)
          ∙ put-behind at (1056 * k + x) cell.payload bytes (omega arith) (omega arith)
    ])

-- reads of a block that the run has, and of another
pub read-inside : (bytes : List ℕ) (run : Run) (now : List Cell) (block : ℕ) (into : Cell)
    → run.first ≤ block → block < run.first + run.count
    → into ≡ cell_in run.bytes.items (block % 66) → IsPresent bytes run now → into ≡ cell_at now block
read-inside bytes run now block into low high is p = is ∙ sym (p.inside block low high)

pub read-outside : (bytes : List ℕ) (run : Run) (now : List Cell) (block : ℕ) (into : Cell) → block < 1048576
    → (block < run.first) ⊎ (run.first + run.count ≤ block) → into ≡ cell_in bytes block → IsPresent bytes run now
    → into ≡ cell_at now block
read-outside bytes run now block into there (inl low) is p = is ∙ sym (p.before block there low)
read-outside bytes run now block into there (inr high) is p = is ∙ sym (p.behind block there high)

-- at first there is no run
pub present-first : (bytes : List ℕ) (run : Run) → run.count ≡ 0 → IsPresent bytes run (cells_in bytes)
present-first bytes run none = record {
  inside = λ b low high. absurd (omega arith);
  before = λ b there low. at-cells_in bytes b there;
  behind = λ b there low. at-cells_in bytes b there;
}

-- the file has every cell where there is no run
pub present-all : (bytes : List ℕ) (run : Run) (now : List Cell) → run.count ≡ 0 → IsPresent bytes run now
    → (b : ℕ) → b < 1048576
    → cell_at now b ≡ cell_in bytes b
present-all bytes run now none p b there =
    elim (cases_lt b run.first) [ inl low ↦ p.before b there low | inr high ↦ p.behind b there (omega arith) ]

pub present-none : (bytes : List ℕ) (next : Run) (now : List Cell)
    → next.count ≡ 0 → ((b : ℕ) → b < 1048576 → cell_at now b ≡ cell_in bytes b)
    → IsPresent bytes next now
present-none bytes next now none all = record {
  inside = λ b low high. absurd (omega arith);
  before = λ b there low. all b there;
  behind = λ b there low. all b there;
}

-- the place of a cell of a run, and the bytes of all
place-in : (first count block : ℕ) → first % 66 + count ≤ 66 → first ≤ block → block < first + count
    → block % 66 ≡ first % 66 + (block - first)
place-in first count block within low high = omega arith

pub length-run_bytes : (run : Run) → length (run_bytes run) ≡ 1056 * run.count
length-run_bytes run =
    let size = run.size in
    let within = run.within in
    let at : ℕ = 1056 * (run.first % 66) in
    let cut : at + 1056 * run.count - at ≡ 1056 * run.count = omega arith in
    let rest = length-drop at run.bytes.items in
    ap (λ n. length (take n (drop at run.bytes.items))) cut
    ∙ length-take-le (1056 * run.count) (drop at run.bytes.items) (omega arith)

at-run_bytes : (run : Run) (k : ℕ) → k < 1056 * run.count
    → slice_index (run_bytes run) k ≡ slice_index run.bytes.items (1056 * (run.first % 66) + k)
at-run_bytes run k low =
    let at : ℕ = 1056 * (run.first % 66) in
    let cut : at + 1056 * run.count - at ≡ 1056 * run.count = omega arith in
    ap (λ n. slice_index (take n (drop at run.bytes.items)) k) cut
    ∙ get_or-take (1056 * run.count) (drop at run.bytes.items) k 0 low
    ∙ get_or-drop at run.bytes.items k 0

-- the run was put into the file
pub present-out : (a b part : List ℕ) (run : Run) (now : List Cell) → part ≡ run_bytes run
    → IsPut (1056 * run.first) part a b → IsPresent a run now
    → (block : ℕ) → block < 1048576 → cell_at now block ≡ cell_in b block
present-out a b part run now is put p block there =
    let len = ap length is ∙ length-run_bytes run in
    elim (cases_lt block run.first) [
      | inl low ↦ p.before block there low
          ∙ cell-same a b block block (λ x small. sym (put.before (1056 * block + x) (omega arith)))
      | inr low ↦ elim (cases_lt block (run.first + run.count)) [
        | inl high ↦ p.inside block low high
            ∙ cell-same run.bytes.items b (block % 66) block (λ x small.
            let k : ℕ = 1056 * (block - run.first) + x in
            let in_run = place-in run.first run.count block run.within low high in
            let place : 1056 * run.first + k ≡ 1056 * block + x = omega arith in
            let within : 1056 * (block % 66) + x ≡ 1056 * (run.first % 66) + k = omega arith in
            ap (slice_index run.bytes.items) within ∙ sym (at-run_bytes run k (omega arith))
            ∙ ap (λ l. slice_index l k) (sym is) ∙ sym (put.inside k (omega arith)) ∙ ap (slice_index b) place)
        | inr behind ↦ p.behind block there behind
            ∙ cell-same a b block block (λ x small. sym (put.behind (1056 * block + x) (omega arith)))
      ]
    ]

-- the run was put into the file in part
pub present-partly : (a b part : List ℕ) (run : Run) (now : List Cell) → part ≡ run_bytes run
    → IsPartlyPut (1056 * run.first) part a b
    → IsPresent a run now → IsPresent b run now
present-partly a b part run now is partly p =
    let len = ap length is ∙ length-run_bytes run in
    let fits = partly.fits in
    let short : length (take partly.count part) ≡ partly.count = length-take-le partly.count part fits in
    record {
      inside = p.inside;
      before = λ k there low. p.before k there low
          ∙ cell-same a b k k (λ x small. sym (partly.put.before (1056 * k + x) (omega arith)));
      behind = λ k there high. p.behind k there high
          ∙ cell-same a b k k (λ x small. sym (partly.put.behind (1056 * k + x) (omega arith)));
    }

-- a cell was put into the run
grown-inside : (first count first' count' block b : ℕ) → first' ≡ min first block
    → first' + count' ≡ max (first + count) (block + 1) → first ≤ block + 1 → block ≤ first + count
    → first' ≤ b → b < first' + count' → b ≢ block
    → (first ≤ b) × (b < first + count)
grown-inside first count first' count' block b begin end low high from to other =
    elim (cases_lt b block) [
      | inl under ↦ (omega arith, omega arith)
      | inr over ↦
          let above : block < b =
          elim (cases_lt block b) [ inl strictly ↦ strictly | inr same ↦ absurd (other (omega arith)) ] in
          (omega arith, omega arith)
    ]

other-place : (first count block b : ℕ) → first % 66 + count ≤ 66 → first ≤ block → block < first + count
    → first ≤ b → b < first + count → b ≢ block → b % 66 ≢ block % 66
other-place first count block b within low high from to other same =
    let one = place-in first count block within low high in
    let two = place-in first count b within from to in
    other (omega arith)

pub present-put : (bytes : List ℕ) (run next : Run) (now : List Cell) (block : ℕ) (cell : Cell) → HasPlace run block
    → block < 1048576
    → next.first ≡ min run.first block → next.first + next.count ≡ max (run.first + run.count) (block + 1)
    → cell_in next.bytes.items (block % 66) ≡ cell
    → ((k : ℕ) → k ≢ block % 66 → cell_in next.bytes.items k ≡ cell_in run.bytes.items k)
    → length now ≡ 1048576 → IsPresent bytes run now
    → IsPresent bytes next (set now block cell)
present-put bytes run next now block cell has there first end here others size p =
    let low = has.low in
    let high = has.high in
    record {
      inside = λ b from to. elim (cases_eq b block) [
        | inl same ↦
            ap (cell_at (set now block cell)) same ∙ get_or-set_same now block cell no_cell (omega arith) ∙ sym here
            ∙ ap (λ k. cell_in next.bytes.items (k % 66)) (sym same)
        | inr other ↦
            let old = grown-inside run.first run.count next.first next.count block b first end low high from to other in
            let place = other-place next.first next.count block b next.within (omega arith)
            (omega arith) from to other in
            get_or-set_other now block b cell no_cell other ∙ p.inside b old.0 old.1 ∙ sym (others (b % 66) place)
      ];
      before = λ b there_b under.
          let apart : b ≢ block = λ e. omega arith in
          get_or-set_other now block b cell no_cell apart ∙ p.before b there_b (omega arith);
      behind = λ b there_b over.
          let apart : b ≢ block = λ e. omega arith in
          get_or-set_other now block b cell no_cell apart ∙ p.behind b there_b (omega arith);
    }

-- a cell that was taken out of some bytes
pub cell-taken : (bytes : List ℕ) (j at : ℕ) (cell : Cell) → at ≡ 1056 * j → at + 1056 ≤ length bytes
    → cell.payload ≡ slice_range bytes at (at + 1024)
    → cell.tag ≡ slice_range bytes (at + 1024) (at + 1056) → cell ≡ cell_in bytes j
unfolding cell_in
cell-taken bytes j at cell is fits payload tag =
    let end : at + 1056 ≡ at + 1024 + 32 = omega arith in
    let rest : at + 1024 ≡ 1056 * j + 1024 = omega arith in
    let one = payload ∙ part-range bytes at 1024 (omega arith) ∙ ap (λ k. part_of bytes k 1024) is in
    let two = tag ∙ ap (λ k. slice_range bytes (at + 1024) k) end
    ∙ part-range bytes (at + 1024) 32 (omega arith) ∙ ap (λ k. part_of bytes k 32) rest in
    λ x. record { payload = one x; tag = two x }
