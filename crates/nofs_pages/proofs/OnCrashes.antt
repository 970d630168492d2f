-- A crash that keeps pages whole keeps cells whole.
use Rattle.std.proofs.Common.{◌≡◌, ℕ, ◌+◌, ◌-◌, ◌*◌, ◌/◌, ◌%◌, ◌<◌, ◌≤◌, ◌⊎◌, List, length, arith, refl, sym, ap, ◌∙◌}
use Rattle.std.proofs.Common.{inl, inr}
use Rattle.std.specs.Prelude.{slice_index}
use Rattle.nofs_disk.specs.CellsOfBytes.{cell_in, part_of}
use Rattle.nofs_filedisk.proofs.OnMoving.Units.{cell-same-bytes}
use Rattle.nofs_pages.specs.Crashes.{PagesKeepCells}
use Rattle.nofs_pages.specs.Pages.{sealed}
use Rattle.nofs_pages.specs.Singles.{HasSamePart, byte_in}
use Rattle.nofs_pages.specs.Views.{all_bytes}
use Rattle.nofs_pages.specs.Laws.{at-all_bytes}
use Rattle.nofs_pages.proofs.OnPages.{at-part_of, byte_in-same, byte_in-sealed, length-part_of}

same-page : (one other : List ℕ) (b k : ℕ) → HasSamePart (4096 * (b / 3)) 4096 one other → k < 1056
    → byte_in one (1056 * b + k) ≡ byte_in other (1056 * b + k)
same-page one other b k same low =
    let page : (1056 * b + k) / 3168 ≡ b / 3 = omega arith in
    byte_in-same one other (1056 * b + k) (λ i small.
    let place : 4096 * ((1056 * b + k) / 3168) + i ≡ 4096 * (b / 3) + i = omega arith in
    ap (slice_index one) place ∙ same i small ∙ sym (ap (slice_index other) place))

-- a cell of a page that is durable
durable-cell : (durable crashed : List ℕ) (n : ℕ) → n < 1048576 → HasSamePart (4096 * (n / 3)) 4096 crashed durable
    → cell_in (all_bytes (byte_in crashed)) n ≡ cell_in (all_bytes (byte_in durable)) n
durable-cell durable crashed n low same =
    cell-same-bytes (all_bytes (byte_in crashed)) (all_bytes (byte_in durable)) n (λ k small.
    at-all_bytes (byte_in crashed) (1056 * n + k) (omega arith) ∙ same-page crashed durable n k same small
    ∙ sym (at-all_bytes (byte_in durable) (1056 * n + k) (omega arith)))

-- and of one that was made of its cells
made-cell : (crashed : List ℕ) (cells : ℕ → ℕ) (n : ℕ) → n < 1048576
    → part_of crashed (4096 * (n / 3)) 4096 ≡ sealed (n / 3) (part_of (all_bytes cells) (3168 * (n / 3)) 3168)
    → cell_in (all_bytes (byte_in crashed)) n ≡ cell_in (all_bytes cells) n
made-cell crashed cells n low is =
    cell-same-bytes (all_bytes (byte_in crashed)) (all_bytes cells) n (λ k small.
    let at = 1056 * n + k in
    let page : at / 3168 ≡ n / 3 = omega arith in
    let area = part_of (all_bytes cells) (3168 * (n / 3)) 3168 in
    let place : 3168 * (n / 3) + at % 3168 ≡ at = omega arith in
    at-all_bytes (byte_in crashed) at (omega arith)
    ∙ byte_in-sealed crashed area at (omega arith) (length-part_of (all_bytes cells) (3168 * (n / 3)) 3168)
    (ap (λ p. part_of crashed (4096 * p) 4096) page ∙ is ∙ sym (ap (λ p. sealed p area) page))
    ∙ at-part_of (all_bytes cells) (3168 * (n / 3)) 3168 (at % 3168) (omega arith)
    ∙ ap (slice_index (all_bytes cells)) place)

pub keeps-cells : PagesKeepCells
keeps-cells durable cells now crashed left n low = elim (left (n / 3) (omega arith)) [
  | inl same ↦ inl (durable-cell durable crashed n low same)
  | inr made ↦ inr (made.0, made.1, made-cell crashed (cells made.0) n low made.2)
]
