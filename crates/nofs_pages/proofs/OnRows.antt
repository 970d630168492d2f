-- Pages that are opened and made one after the other.
use Rattle.std.proofs.Common.{◌≡◌, ℕ, ◌+◌, ◌-◌, ◌*◌, ◌/◌, ◌%◌, ◌^◌, ◌<◌, ◌≤◌, ◌⊎◌, Bool, true, false, List, ◌++◌}
use Rattle.std.proofs.Common.{length, take, drop}
use Rattle.std.proofs.Common.{arith, cond, refl, sym, ap, ◌∙◌, inl, inr, subst}
use Rattle.std.specs.Prelude.{slice_index, slice_range}
use borrow.Rule.Slice.PartMut.{put_mid}
use Rattle.std.proofs.lemmas.Bool.{cases_lt, cond-false, cond-true}
use Rattle.std.proofs.lemmas.List.{drop-drop, length-drop, length-take-le}
use Rattle.nofs_disk.specs.Number.{length-zeros, put_bytes, zeros}
use Rattle.nofs_disk.specs.Parts.{length-put_bytes}
use Rattle.nofs_disk.specs.CellsOfBytes.{part-is, part-range, part_of}
use Rattle.nofs_filedisk.proofs.OnMoving.Bytes.{put-before, put-behind, put-inside}
use Rattle.nofs_filedisk.proofs.OnMoving.Units.{part-same}
use Rattle.nofs_pages.specs.Pages.{HasAreas, HasPages, HasTold, IsTold, area_of, is_page, sealed}
use Rattle.nofs_pages.proofs.OnPages.{length-part_of, length-sealed}

-- The cells of a page

pub area_of-page : (number : ℕ) (page : List ℕ) → is_page number page ≡ true
    → area_of number page ≡ slice_range page 928 4096
unfolding area_of
area_of-page number page is = cond-true _ _ _ is

pub area_of-other : (number : ℕ) (page : List ℕ) → is_page number page ≡ false → area_of number page ≡ zeros 3168
unfolding area_of
area_of-other number page is = cond-false _ _ _ is

length-area_of : (number : ℕ) (page : List ℕ) → length page ≡ 4096 → length (area_of number page) ≡ 3168
unfolding area_of
length-area_of number page size = go (is_page number page)
  where
    go : (b : Bool) → length (cond b (slice_range page 928 4096) (zeros 3168)) ≡ 3168
    go true =
        let rest = length-drop 928 page in
        length-take-le (4096 - 928) (drop 928 page) (omega arith)
    go false = length-zeros 3168

-- Pages are opened

pub areas-begin : (raw : List ℕ) (first to : ℕ) (old : List ℕ) → HasAreas raw first 0 to old old
areas-begin raw first to old =
    record { inside = λ i low. absurd (omega (arith, low)); others = λ i apart. refl }

pub told-begin : (raw : List ℕ) (first : ℕ) → HasTold raw first 0
told-begin raw first j low = absurd (omega (arith, low))

pub areas-next : (raw : List ℕ) (first at to : ℕ) (old mid new : List ℕ) → HasAreas raw first at to old mid
    → new ≡ put_bytes (to + 3168 * at) (area_of (first + at) (slice_range raw (4096 * at) (4096 * at + 4096))) mid
    → to + 3168 * (at + 1) ≤ length mid → 4096 * (at + 1) ≤ length raw → HasAreas raw first (at + 1) to old new
areas-next raw first at to old mid new has is fits room =
    let page = part_of raw (4096 * at) 4096 in
    let area = area_of (first + at) page in
    let size = length-area_of (first + at) page (length-part_of raw (4096 * at) 4096) in
    let put : new ≡ put_bytes (to + 3168 * at) area mid =
    is ∙ ap (λ p. put_bytes (to + 3168 * at) (area_of (first + at) p) mid)
    (part-range raw (4096 * at) 4096 (omega arith)) in
    record {
      inside = λ i low. elim (cases_lt i (3168 * at)) [
        | inl early ↦ ap (λ l. slice_index l (to + i)) put
            ∙ put-before (to + 3168 * at) (to + i) area mid (omega arith) (omega arith) ∙ has.inside i early
        | inr late ↦
            let k = i - 3168 * at in
            let place : to + i ≡ to + 3168 * at + k = omega arith in
            let number : i / 3168 ≡ at = omega arith in
            let rest : i % 3168 ≡ k = omega arith in
            ap (λ l. slice_index l (to + i)) put ∙ ap (slice_index (put_bytes (to + 3168 * at) area mid)) place
            ∙ put-inside (to + 3168 * at) k area mid (omega arith) (omega arith)
            ∙ sym (ap (λ n. slice_index (area_of (first + n) (part_of raw (4096 * n) 4096)) (i % 3168)) number
            ∙ ap (slice_index area) rest)
      ];
      others = λ i apart. elim apart [
        | inl front ↦ ap (λ l. slice_index l i) put ∙ put-before (to + 3168 * at) i area mid (omega arith) (omega arith)
            ∙ has.others i (inl front)
        | inr behind ↦ ap (λ l. slice_index l i) put
            ∙ put-behind (to + 3168 * at) i area mid (omega arith) (omega arith)
            ∙ has.others i (inr (omega arith))
      ];
    }

pub told-next : (raw : List ℕ) (first at : ℕ) → HasTold raw first at
    → IsTold (first + at) (slice_range raw (4096 * at) (4096 * at + 4096)) → 4096 * (at + 1) ≤ length raw
    → HasTold raw first (at + 1)
told-next raw first at has told room j low = elim (cases_lt j at) [
  | inl early ↦ has j early
  | inr late ↦
      let same : at ≡ j = omega arith in
      let F : List ℕ → Type 0 = λ page. IsTold (first + at) page in
      let G : ℕ → Type 0 = λ n. IsTold (first + n) (part_of raw (4096 * n) 4096) in
      subst G same (subst F (part-range raw (4096 * at) 4096 (omega arith)) told)
]

-- Pages are made

length-cut : (area : List ℕ) (from : ℕ) → from + 3168 ≤ length area
    → length (slice_range area from (from + 3168)) ≡ 3168
length-cut area from fits =
    let rest = length-drop from area in
    let size : from + 3168 - from ≡ 3168 = omega arith in
    length-take-le (from + 3168 - from) (drop from area) (omega arith) ∙ size

pub put-page : (to number from : ℕ) (area raw page : List ℕ) → number < 2 ^ 64 → from + 3168 ≤ length area
    → page ≡ sealed number (slice_range area from (from + 3168))
    → put_mid to (to + 4096 - to) raw page ≡ put_bytes to (sealed number (slice_range area from (from + 3168))) raw
unfolding put_bytes
put-page to number from area raw page low fits is =
    let made = sealed number (slice_range area from (from + 3168)) in
    let size = length-sealed number (slice_range area from (from + 3168)) low (length-cut area from fits) in
    let end : to + (to + 4096 - to) ≡ to + length made = omega (arith, size) in
    ap (λ l. put_mid to (to + 4096 - to) raw l) is
    ∙ ap (λ l. take to raw ++ (made ++ l)) (drop-drop (to + 4096 - to) to raw ∙ ap (λ n. drop n raw) end)

pub pages-begin : (areas : List ℕ) (first : ℕ) (raw : List ℕ) → HasPages areas first 0 raw
pages-begin areas first raw j low = absurd (omega (arith, low))

pub length-next : (areas : List ℕ) (first at : ℕ) (mid new : List ℕ)
    → new ≡ put_bytes (4096 * at) (sealed (first + at) (slice_range areas (3168 * at) (3168 * at + 3168))) mid
    → first + at < 2 ^ 64 → 4096 * (at + 1) ≤ length mid → 3168 * (at + 1) ≤ length areas → length new ≡ length mid
length-next areas first at mid new is low fits room =
    let made = sealed (first + at) (slice_range areas (3168 * at) (3168 * at + 3168)) in
    let size = length-sealed (first + at) (slice_range areas (3168 * at) (3168 * at + 3168)) low
    (length-cut areas (3168 * at) (omega arith)) in
    ap length is ∙ length-put_bytes (4096 * at) made mid (omega arith)

pub pages-next : (areas : List ℕ) (first at : ℕ) (mid new : List ℕ) → HasPages areas first at mid
    → new ≡ put_bytes (4096 * at) (sealed (first + at) (slice_range areas (3168 * at) (3168 * at + 3168))) mid
    → first + at < 2 ^ 64 → 4096 * (at + 1) ≤ length mid → 3168 * (at + 1) ≤ length areas
    → HasPages areas first (at + 1) new
pages-next areas first at mid new has is small fits room j low =
    let cut = slice_range areas (3168 * at) (3168 * at + 3168) in
    let made = sealed (first + at) cut in
    let size = length-sealed (first + at) cut small (length-cut areas (3168 * at) (omega arith)) in
    elim (cases_lt j at) [
      | inl early ↦ part-same new mid (4096 * j) (4096 * j) 4096 (λ i small.
          ap (λ l. slice_index l (4096 * j + i)) is
          ∙ put-before (4096 * at) (4096 * j + i) made mid (omega arith) (omega arith)) ∙ has j early
      | inr late ↦
          let same : at ≡ j = omega arith in
          let here : part_of new (4096 * at) 4096 ≡ made =
          part-is new made (4096 * at) 4096 size (λ k small.
          ap (λ l. slice_index l (4096 * at + k)) is
          ∙ put-inside (4096 * at) k made mid (omega arith) (omega arith)) in
          let is_part = part-range areas (3168 * at) 3168 (omega arith) in
          let G : ℕ → Type 0 = λ n. part_of new (4096 * n) 4096 ≡ sealed (first + n) (part_of areas (3168 * n) 3168) in
          subst G same (here ∙ ap (sealed (first + at)) is_part)
    ]
