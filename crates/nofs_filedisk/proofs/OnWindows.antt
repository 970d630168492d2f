-- Windows show what the file holds, before and after a write.
use Rattle.std.proofs.Common.{◌≡◌, ◌≢◌, ℕ, ◌+◌, ◌-◌, ◌*◌, ◌/◌, ◌%◌, ◌<◌, ◌≤◌, List, length, take, drop, set, get_or}
use Rattle.std.proofs.Common.{Option, None, Some, arith, refl, subst}
use Rattle.std.proofs.Common.{sym, ap, ◌∙◌, inl, inr}
use Rattle.std.specs.Prelude.{All, slice_index, slice_range}
use Rattle.std.specs.List.{AllWithin}
use Rattle.std.proofs.lemmas.Bool.{cases_lt}
use Rattle.std.proofs.lemmas.List.{ext_get_or, get_or-drop, get_or-set_other, get_or-take, length-drop, length-set}
use Rattle.std.proofs.lemmas.List.{length-take-le}
use Rattle.std.proofs.lemmas.List.Elements.{AllWithin-more_set}
use Rattle.std.proofs.lemmas.List.FromFn.{get_or-map-range_with_len, length-map-range_with_len}
use Rattle.std.proofs.lemmas.Option.{same_Some}
use Rattle.nofs_disk.specs.Number.{put_bytes}
use Rattle.nofs_disk.specs.Parts.{length-put_bytes}
use Rattle.nofs_disk.specs.declared.tag.Cell.{Cell}
use Rattle.nofs_disk.specs.CellsOfBytes.{cell_in, part_of}
use Rattle.nofs_filedisk.specs.Bytes.{IsPart, IsPut}
use Rattle.nofs_filedisk.specs.Windows.{IsShown}
use Rattle.nofs_filedisk.specs.declared.windows.Window.{Window}
use Rattle.nofs_filedisk.proofs.OnMoving.Bytes.{put-before, put-behind, put-inside}

-- a part of what a window shows
part-shown : (bytes w : List ℕ) (base at n : ℕ) → at + n ≤ length w → IsPart bytes base w
    → take n (drop at w) ≡ part_of bytes (base + at) n
unfolding part_of
part-shown bytes w base at n fits shown =
    let rest = length-drop at w in
    let len : length (take n (drop at w)) ≡ n = length-take-le n (drop at w) (omega arith) in
    ext_get_or 0 (take n (drop at w)) (part_of bytes (base + at) n)
    (len ∙ sym (length-map-range_with_len (slice_index bytes) (base + at) n)) (λ k low.
    let small : k < n = omega arith in
    let place : base + (at + k) ≡ base + at + k = omega arith in
    get_or-take n (drop at w) k 0 small ∙ get_or-drop at w k 0 ∙ shown (at + k) (omega arith)
    ∙ ap (slice_index bytes) place
    ∙ sym (get_or-map-range_with_len (slice_index bytes) (base + at) n k (base + at + k) 0 small refl))

range-shown : (bytes w : List ℕ) (base at n : ℕ) → at + n ≤ length w → IsPart bytes base w
    → slice_range w at (at + n) ≡ part_of bytes (base + at) n
range-shown bytes w base at n fits shown =
    let size : at + n - at ≡ n = omega arith in
    ap (λ k. take k (drop at w)) size ∙ part-shown bytes w base at n fits shown

block-place : (block : ℕ) → 69696 * (block / 66) + 1056 * (block % 66) ≡ 1056 * block
block-place block = omega arith

-- the cell of a block in the window that shows it
pub cell-shown : (bytes w : List ℕ) (block at : ℕ) (cell : Cell) → at ≡ 1056 * (block % 66) → at + 1056 ≤ length w
    → IsPart bytes (69696 * (block / 66)) w
    → cell.payload ≡ slice_range w at (at + 1024) → cell.tag ≡ slice_range w (at + 1024) (at + 1056)
    → cell ≡ cell_in bytes block
unfolding cell_in
cell-shown bytes w block at cell is fits shown payload tag =
    let whole = block-place block in
    let first : 69696 * (block / 66) + at ≡ 1056 * block = omega arith in
    let second : 69696 * (block / 66) + (at + 1024) ≡ 1056 * block + 1024 = omega arith in
    let end : at + 1056 ≡ at + 1024 + 32 = omega arith in
    let one = payload ∙ range-shown bytes w (69696 * (block / 66)) at 1024 (omega arith) shown
    ∙ ap (λ k. part_of bytes k 1024) first in
    let two = tag ∙ ap (λ k. slice_range w (at + 1024) k) end
    ∙ range-shown bytes w (69696 * (block / 66)) (at + 1024) 32 (omega arith) shown
    ∙ ap (λ k. part_of bytes k 32) second in
    λ i. record { payload = one i; tag = two i }

-- the cell of a block that was read alone
pub cell-alone : (bytes w : List ℕ) (block : ℕ) (cell : Cell) → length w ≡ 1056 → IsPart bytes (1056 * block) w
    → cell.payload ≡ slice_range w 0 1024
    → cell.tag ≡ slice_range w 1024 1056
    → cell ≡ cell_in bytes block
unfolding cell_in
cell-alone bytes w block cell size shown payload tag =
    let first : 1056 * block + 0 ≡ 1056 * block = omega arith in
    let one = payload ∙ range-shown bytes w (1056 * block) 0 1024 (omega (arith, size)) shown
    ∙ ap (λ k. part_of bytes k 1024) first in
    let two = tag ∙ range-shown bytes w (1056 * block) 1024 32 (omega (arith, size)) shown in
    λ i. record { payload = one i; tag = two i }

-- a window of other cells
apart : (block n : ℕ) (part a b w : List ℕ) → 1056 * (block % 66) + length part ≤ 69696 → IsPut (1056 * block) part a b
    → n ≢ block / 66 → length w ≤ 69696 → IsPart a (69696 * n) w
    → IsPart b (69696 * n) w
apart block n part a b w short put other size shown k low =
    let whole = block-place block in
    let small : block % 66 < 66 = omega arith in
    shown k low
    ∙ sym (elim (cases_lt n (block / 66)) [
      | inl under ↦ put.before (69696 * n + k) (omega arith)
      | inr over ↦
          let above : block / 66 < n =
          elim (cases_lt (block / 66) n) [ inl strictly ↦ strictly | inr same ↦ absurd (other (omega arith)) ] in
          put.behind (69696 * n + k) (omega arith)
    ])

pub kept-apart : (number : Option ℕ) (block : ℕ) (part a b w : List ℕ)
    → 1056 * (block % 66) + length part ≤ 69696 → IsPut (1056 * block) part a b → number ≢ Some (block / 66)
    → length w ≤ 69696
    → ((n : ℕ) → number ≡ Some n → IsPart a (69696 * n) w) → (n : ℕ) → number ≡ Some n → IsPart b (69696 * n) w
kept-apart number block part a b w short put other size shown n is =
    apart block n part a b w short put (λ same. other (is ∙ ap Some same)) size (shown n is)

-- the window of the block
pub put-shown : (block at : ℕ) (part a b w : List ℕ) → at ≡ 1056 * (block % 66)
    → at + length part ≤ 69696 → IsPut (1056 * block) part a b → length w ≡ 69696
    → IsPart a (69696 * (block / 66)) w
    → IsPart b (69696 * (block / 66)) (put_bytes at part w)
put-shown block at part a b w is fits_window put size shown k low =
    let whole = block-place block in
    let small : block % 66 < 66 = omega arith in
    let fits : at ≤ length w = omega arith in
    let same_size = length-put_bytes at part w (omega arith) in
    elim (cases_lt k at) [
      | inl front ↦ put-before at k part w fits front ∙ shown k (omega arith)
          ∙ sym (put.before (69696 * (block / 66) + k) (omega arith))
      | inr rest ↦ elim (cases_lt k (at + length part)) [
        | inl inside ↦
            let index : at + (k - at) ≡ k = omega arith in
            let place : 1056 * block + (k - at) ≡ 69696 * (block / 66) + k = omega arith in
            ap (slice_index (put_bytes at part w)) (sym index) ∙ put-inside at (k - at) part w fits (omega arith)
            ∙ sym (put.inside (k - at) (omega arith))
            ∙ ap (slice_index b) place
        | inr behind ↦ put-behind at k part w fits (omega arith) ∙ shown k (omega arith)
            ∙ sym (put.behind (69696 * (block / 66) + k) (omega arith))
      ]
    ]

pub put-known : (number : Option ℕ) (block at : ℕ) (part a b w new : List ℕ) → number ≡ Some (block / 66)
    → at ≡ 1056 * (block % 66) → 1056 * (block % 66) + length part ≤ 69696
    → IsPut (1056 * block) part a b → length w ≡ 69696
    → new ≡ put_bytes at part w → ((n : ℕ) → number ≡ Some n → IsPart a (69696 * n) w) → (n : ℕ) → number ≡ Some n
    → IsPart b (69696 * n) new
put-known number block at part a b w new has is fits put size same shown n named =
    let number_is : block / 66 ≡ n = same_Some (block / 66) n (sym has ∙ named) in
    let F : ℕ → Type 0 = λ m. IsPart b (69696 * m) new in
    let G : List ℕ → Type 0 = λ l. IsPart b (69696 * (block / 66)) l in
    subst F number_is
    (subst G (sym same) (put-shown block at part a b w is (omega arith) put size (shown (block / 66) has)))

-- Window after window

-- the windows before a place show the new bytes, and the others the old ones
pub record HalfShown (old new : List ℕ) (at : ℕ) (windows : List Window) : Type 0 where
  pub done : AllWithin (IsShown new) windows 0 at
  pub left : AllWithin (IsShown old) windows at (length windows)

pub half-none : (old new : List ℕ) (windows : List Window) → All (IsShown old) windows → HalfShown old new 0 windows
half-none old new windows all =
    record { done = λ k d low high. absurd (omega (arith, high)); left = λ k d low high. all k d high }

pub half-more : (old new : List ℕ) (at : ℕ) (windows : List Window) (w : Window) → at < length windows
    → HalfShown old new at windows → IsShown new w
    → HalfShown old new (at + 1) (set windows at w)
half-more old new at windows w inside half shown = record {
  done = AllWithin-more_set windows at w inside (IsShown new) half.done shown;
  left = λ k d low high.
      let size = length-set windows at w in
      let other : get_or (set windows at w) k d ≡ get_or windows k d =
      get_or-set_other windows at k w d (λ e. omega (arith, e, low)) in
      subst (IsShown old) (sym other) (half.left k d (omega arith) (omega arith));
}

pub half-all : (old new : List ℕ) (at : ℕ) (windows : List Window) → length windows ≤ at → HalfShown old new at windows
    → All (IsShown new) windows
half-all old new at windows end half = λ k d low. half.done k d (omega arith) (omega arith)

-- so many windows that show nothing
pub record ShowNothing (count : ℕ) (windows : List Window) : Type 0 where
  pub len : length windows ≡ count
  pub none : (k : ℕ) (d : Window) → k < length windows → (get_or windows k d).number ≡ None

-- one window more
pub half-next : (old new : List ℕ) (at : ℕ) (windows : List Window) (was now : Window) → at < length windows
    → was ≡ get_or windows at was
    → HalfShown old new at windows → (IsShown old was → IsShown new now)
    → HalfShown old new (at + 1) (set windows at now)
half-next old new at windows was now inside is half step =
    half-more old new at windows now inside half
    (step (subst (IsShown old) (sym is) (half.left at was (omega arith) inside)))

-- windows that show nothing
pub nothing-shown : (bytes : List ℕ) (at : ℕ) (windows : List Window)
    → length windows ≤ at → AllWithin (λ (w : Window). w.number ≡ None) windows 0 at
    → All (IsShown bytes) windows
nothing-shown bytes at windows all none =
    λ k d low n named. absurd (not_both n (sym (none k d (omega arith) (omega arith)) ∙ named))
  where
    not_both : (n : ℕ) → None ≡ Some n → ⊥
    not_both n e = cc
