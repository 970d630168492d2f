-- Where the cells of an image stand.
use Rattle.std.proofs.Common.{◌≡◌, ℕ, ◌+◌, ◌-◌, ◌*◌, ◌/◌, ◌%◌, ◌<◌, ◌≤◌, Bool, true, false, List, length, drop, arith}
use Rattle.std.proofs.Common.{refl, sym, ap, ◌∙◌}
use Rattle.std.specs.Prelude.{◌||◌, slice_index, slice_range, if◌then◌else◌}
use Rattle.std.proofs.lemmas.Bool.{cond-false, cond-true}
use Rattle.std.proofs.lemmas.List.{get_or-drop, get_or-take}
use Rattle.std.proofs.lemmas.List.FromFn.{get_or-map-range_with_len, length-map-range_with_len}
use Rattle.nofs_disk.specs.CellsOfBytes.{cell_in, part-is, part_of}
use Rattle.nofs_disk.specs.Number.{length-zeros, zeros}
use Rattle.nofs_disk.specs.declared.tag.Cell.{Cell}
use Rattle.nofs_pages.specs.Laws.{at-all_bytes}
use Rattle.nofs_pages.specs.Pages.{area_of, is_page}
use Rattle.nofs_pages.specs.Singles.{byte_in}
use Rattle.nofs_pages.specs.Twins.{area_by, current_of, twin_area, twin_byte}
use Rattle.nofs_pages.specs.Views.{all_bytes}
use Rattle.nofs_pages.specs.declared.place.Current.{Current}
use Rattle.nofs_pages.specs.declared.place.Current.TheVariants.{First, Second, Neither}
use Rattle.nofs_reader.proofs.OnDisk.{zeros-at}
use Rattle.nofs_reader.specs.Layouts.{IsToldCell, blank_cell, bytes_by, cell_bytes, cell_from, is_blank, is_told}
use Rattle.nofs_reader.specs.Layouts.{is_told_by, is_told_pair, is_told_sort, layout_of, pair_by, pair_of, sort_of}
use Rattle.nofs_reader.specs.declared.layout.Layout.{Layout}
use Rattle.nofs_reader.specs.declared.layout.Layout.TheVariants.{Packed, Paged, Twin}
use Rattle.nofs_reader.specs.declared.layout.PageSort.TheVariants as sort
use Rattle.nofs_reader.specs.declared.layout.PairSort.{PairSort}
use Rattle.nofs_reader.specs.declared.layout.PairSort.TheVariants as pair

-- cells that lie one behind the other
pub packed-cell : (bytes : List ℕ) (b : ℕ) → layout_of bytes ≡ Packed → IsToldCell bytes b (cell_from bytes (1056 * b))
unfolding cell_bytes cell_in is_told
packed-cell bytes b e = record {
  cell = ap (λ (l : Layout). cell_in (bytes_by l bytes) b) e;
  told = ap (λ (l : Layout). is_told_by l bytes (b / 3)) e;
}

-- a page is told as what it is
told-as : (bytes : List ℕ) (p b : ℕ) → layout_of bytes ≡ Paged → b / 3 ≡ p
    → is_told bytes (b / 3) ≡ is_told_sort (sort_of p (part_of bytes (4096 * p) 4096))
unfolding is_told
told-as bytes p b e at =
    ap (λ (l : Layout). is_told_by l bytes (b / 3)) e
    ∙ ap (λ (n : ℕ). is_told_sort (sort_of n (part_of bytes (4096 * n) 4096))) at

page-of-told : (page blank : Bool) → sort.Told ≡ (if page then sort.Told else if blank then sort.Blank else sort.Bad)
    → page ≡ true
page-of-told true blank e = refl
page-of-told false true e = cc
page-of-told false false e = cc

page-of-blank : (page blank : Bool) → sort.Blank ≡ (if page then sort.Told else if blank then sort.Blank else sort.Bad)
    → page ≡ false
page-of-blank true blank e = cc
page-of-blank false blank e = refl

-- a part of some bytes
length-part_of : (bytes : List ℕ) (at n : ℕ) → length (part_of bytes at n) ≡ n
unfolding part_of
length-part_of bytes at n = length-map-range_with_len (slice_index bytes) at n

at-part_of : (bytes : List ℕ) (at n k : ℕ) → k < n → slice_index (part_of bytes at n) k ≡ slice_index bytes (at + k)
unfolding part_of
at-part_of bytes at n k low = get_or-map-range_with_len (slice_index bytes) at n k (at + k) 0 low refl

area_of-page : (number : ℕ) (page : List ℕ) → is_page number page ≡ true
    → area_of number page ≡ slice_range page 928 4096
unfolding area_of
area_of-page number page is = cond-true _ _ _ is

area_of-other : (number : ℕ) (page : List ℕ) → is_page number page ≡ false → area_of number page ≡ zeros 3168
unfolding area_of
area_of-other number page is = cond-false _ _ _ is

-- the bytes of the cells of a page stand from a place on, or are zeros
IsFrom : (ℕ → ℕ) → List ℕ → ℕ → ℕ → Type 0
IsFrom f raw p start = (k : ℕ) → k < 3168 → f (3168 * p + k) ≡ slice_index raw (start + k)

IsZeros : (ℕ → ℕ) → ℕ → Type 0
IsZeros f p = (k : ℕ) → k < 3168 → f (3168 * p + k) ≡ 0

-- a byte is that of the area of its page
at-area : (area : ℕ → List ℕ) (p k : ℕ) → k < 3168
    → slice_index (area ((3168 * p + k) / 3168)) ((3168 * p + k) % 3168) ≡ slice_index (area p) k
at-area area p k low =
    let at : (3168 * p + k) / 3168 ≡ p = omega (arith, low) in
    let rest : (3168 * p + k) % 3168 ≡ k = omega (arith, low) in
    ap (λ (n : ℕ). slice_index (area n) ((3168 * p + k) % 3168)) at ∙ ap (λ (n : ℕ). slice_index (area p) n) rest

-- the area of a page that stands in some bytes
at-range : (raw : List ℕ) (from k : ℕ) → k < 3168
    → slice_index (slice_range (part_of raw from 4096) 928 4096) k ≡ slice_index raw (from + 928 + k)
at-range raw from k low =
    let page : List ℕ = part_of raw from 4096 in
    get_or-take (4096 - 928) (drop 928 page) k 0 (omega (arith, low)) ∙ get_or-drop 928 page k 0
    ∙ at-part_of raw from 4096 (928 + k) (omega (arith, low))
    ∙ ap (slice_index raw) {x = from + (928 + k)} {y = from + 928 + k} (omega arith)

single : List ℕ → ℕ → List ℕ
single raw n = area_of n (part_of raw (4096 * n) 4096)

-- the bytes of the cells of a page that is told
byte-told : (raw : List ℕ) (p : ℕ) → is_page p (part_of raw (4096 * p) 4096) ≡ true
    → IsFrom (byte_in raw) raw p (4096 * p + 928)
unfolding byte_in IsFrom single
byte-told raw p is k low =
    at-area (single raw) p k low
    ∙ ap (λ (l : List ℕ). slice_index l k) (area_of-page p (part_of raw (4096 * p) 4096) is)
    ∙ at-range raw (4096 * p) k low

-- and of one that isn't
byte-blank : (raw : List ℕ) (p : ℕ) → is_page p (part_of raw (4096 * p) 4096) ≡ false → IsZeros (byte_in raw) p
unfolding byte_in IsZeros single
byte-blank raw p is k low =
    at-area (single raw) p k low
    ∙ ap (λ (l : List ℕ). slice_index l k) (area_of-other p (part_of raw (4096 * p) 4096) is)
    ∙ zeros-at 3168 k

-- which place of a page is current
current_in : List ℕ → ℕ → Current
current_in raw p = current_of p (part_of raw (8192 * p) 4096) (part_of raw (8192 * p + 4096) 4096)

twins : List ℕ → ℕ → List ℕ
twins raw n = twin_area n (part_of raw (8192 * n) 4096) (part_of raw (8192 * n + 4096) 4096)

byte-pair : (raw : List ℕ) (p : ℕ) (c : Current) → current_in raw p ≡ c → (k : ℕ) → k < 3168
    → twin_byte raw (3168 * p + k)
    ≡ slice_index (area_by c (part_of raw (8192 * p) 4096) (part_of raw (8192 * p + 4096) 4096)) k
unfolding twin_byte twin_area twins current_in
byte-pair raw p c is k low =
    at-area (twins raw) p k low
    ∙ ap (λ (d : Current).
    slice_index (area_by d (part_of raw (8192 * p) 4096) (part_of raw (8192 * p + 4096) 4096)) k) is

byte-first : (raw : List ℕ) (p : ℕ) → current_in raw p ≡ First → IsFrom (twin_byte raw) raw p (8192 * p + 928)
unfolding IsFrom
byte-first raw p is k low = byte-pair raw p First is k low ∙ at-range raw (8192 * p) k low

byte-second : (raw : List ℕ) (p : ℕ) → current_in raw p ≡ Second
    → IsFrom (twin_byte raw) raw p (8192 * p + 4096 + 928)
unfolding IsFrom
byte-second raw p is k low = byte-pair raw p Second is k low ∙ at-range raw (8192 * p + 4096) k low

byte-neither : (raw : List ℕ) (p : ℕ) → current_in raw p ≡ Neither → IsZeros (twin_byte raw) p
unfolding IsZeros
byte-neither raw p is k low = byte-pair raw p Neither is k low ∙ zeros-at 3168 k

-- a part of the cells of a page
part-told : (f : ℕ → ℕ) (raw : List ℕ) (p start k n at from : ℕ) → IsFrom f raw p start → k + n ≤ 3168
    → at ≡ 3168 * p + k → from ≡ start + k → at + n ≤ 1107296256 → part_of (all_bytes f) at n ≡ part_of raw from n
unfolding IsFrom
part-told f raw p start k n at from is fits here there inside =
    part-is (all_bytes f) (part_of raw from n) at n (length-part_of raw from n) (λ j small.
    at-all_bytes f (at + j) (omega (arith, small, inside))
    ∙ ap f {x = at + j} {y = 3168 * p + (k + j)} (omega (arith, here))
    ∙ is (k + j) (omega (arith, small, fits))
    ∙ ap (slice_index raw) {x = start + (k + j)} {y = from + j} (omega (arith, there))
    ∙ sym (at-part_of raw from n j small))

part-blank : (f : ℕ → ℕ) (p k n at : ℕ) → IsZeros f p → k + n ≤ 3168
    → at ≡ 3168 * p + k → at + n ≤ 1107296256 → part_of (all_bytes f) at n ≡ zeros n
unfolding IsZeros
part-blank f p k n at is fits here inside =
    part-is (all_bytes f) (zeros n) at n (length-zeros n) (λ j small.
    at-all_bytes f (at + j) (omega (arith, small, inside))
    ∙ ap f {x = at + j} {y = 3168 * p + (k + j)} (omega (arith, here))
    ∙ is (k + j) (omega (arith, small, fits))
    ∙ sym (zeros-at n j))

cell-by : (layout : Layout) (bytes : List ℕ) (b : ℕ) (is : Cell) → layout_of bytes ≡ layout
    → cell_in (bytes_by layout bytes) b ≡ is → cell_in (cell_bytes bytes) b ≡ is
unfolding cell_bytes
cell-by layout bytes b is e here = ap (λ (l : Layout). cell_in (bytes_by l bytes) b) e ∙ here

cell-told : (f : ℕ → ℕ) (raw : List ℕ) (p start c : ℕ) → IsFrom f raw p start → c < 3 → 3 * p + c < 1048576
    → cell_in (all_bytes f) (3 * p + c) ≡ cell_from raw (start + 1056 * c)
unfolding cell_in
cell-told f raw p start c is low small =
    let one = part-told f raw p start (1056 * c) 1024 (1056 * (3 * p + c)) (start + 1056 * c) is (omega (arith, low))
    (omega arith) (omega arith) (omega (arith, small)) in
    let two = part-told f raw p start (1056 * c + 1024) 32 (1056 * (3 * p + c) + 1024) (start + 1056 * c + 1024) is
    (omega (arith, low)) (omega arith) (omega arith) (omega (arith, small)) in
    λ i. record { payload = one i; tag = two i }

cell-blank : (f : ℕ → ℕ) (p c : ℕ) → IsZeros f p → c < 3 → 3 * p + c < 1048576
    → cell_in (all_bytes f) (3 * p + c) ≡ blank_cell
unfolding cell_in
cell-blank f p c is low small =
    let one = part-blank f p (1056 * c) 1024 (1056 * (3 * p + c)) is (omega (arith, low)) (omega arith)
    (omega (arith, small)) in
    let two = part-blank f p (1056 * c + 1024) 32 (1056 * (3 * p + c) + 1024) is (omega (arith, low)) (omega arith)
    (omega (arith, small)) in
    λ i. record { payload = one i; tag = two i }

-- a cell of a page that is told
pub page-cell : (bytes : List ℕ) (p c : ℕ) → layout_of bytes ≡ Paged → c < 3 → 3 * p + c < 1048576
    → sort.Told ≡ sort_of p (part_of bytes (4096 * p) 4096)
    → IsToldCell bytes (3 * p + c) (cell_from bytes (4096 * p + 928 + 1056 * c))
page-cell bytes p c e low small told =
    let is = page-of-told (is_page p (part_of bytes (4096 * p) 4096)) (is_blank (part_of bytes (4096 * p) 4096)) told in
    record {
      cell = cell-by Paged bytes (3 * p + c) _ e
          (cell-told (byte_in bytes) bytes p (4096 * p + 928) c (byte-told bytes p is) low small);
      told = told-as bytes p (3 * p + c) e (omega (arith, low)) ∙ ap is_told_sort (sym told);
    }

-- and of one of zeros
pub blank-cell : (bytes : List ℕ) (p c : ℕ) → layout_of bytes ≡ Paged → c < 3 → 3 * p + c < 1048576
    → sort.Blank ≡ sort_of p (part_of bytes (4096 * p) 4096) → IsToldCell bytes (3 * p + c) blank_cell
blank-cell bytes p c e low small told =
    let is = page-of-blank (is_page p (part_of bytes (4096 * p) 4096))
    (is_blank (part_of bytes (4096 * p) 4096)) told in
    record {
      cell = cell-by Paged bytes (3 * p + c) _ e (cell-blank (byte_in bytes) p c (byte-blank bytes p is) low small);
      told = told-as bytes p (3 * p + c) e (omega (arith, low)) ∙ ap is_told_sort (sym told);
    }

-- a page that is neither
pub page-bad : (bytes : List ℕ) (p : ℕ) → layout_of bytes ≡ Paged → sort.Bad ≡ sort_of p (part_of bytes (4096 * p) 4096)
    → is_told bytes p ≡ false
page-bad bytes p e bad =
    ap (is_told bytes) {x = p} {y = 3 * p / 3} (omega arith) ∙ told-as bytes p (3 * p) e (omega arith)
    ∙ ap is_told_sort (sym bad)

-- Pages with two places

pair_in : List ℕ → ℕ → PairSort
pair_in bytes p = pair_of p (part_of bytes (8192 * p) 4096) (part_of bytes (8192 * p + 4096) 4096)

pair-as : (bytes : List ℕ) (p b : ℕ) (is : PairSort) → layout_of bytes ≡ Twin → b / 3 ≡ p → is ≡ pair_in bytes p
    → is_told bytes (b / 3) ≡ is_told_pair is
unfolding is_told pair_in
pair-as bytes p b is e at sorted =
    ap (λ (l : Layout). is_told_by l bytes (b / 3)) e ∙ ap (λ (n : ℕ). is_told_pair (pair_in bytes n)) at
    ∙ ap is_told_pair (sym sorted)

first-of : (c : Current) (blank : Bool) → pair.First ≡ pair_by c blank → c ≡ First
first-of First blank e = refl
first-of Second blank e = cc
first-of Neither true e = cc
first-of Neither false e = cc

second-of : (c : Current) (blank : Bool) → pair.Second ≡ pair_by c blank → c ≡ Second
second-of First blank e = cc
second-of Second blank e = refl
second-of Neither true e = cc
second-of Neither false e = cc

neither-of : (c : Current) (blank : Bool) → pair.Blank ≡ pair_by c blank → c ≡ Neither
neither-of First blank e = cc
neither-of Second blank e = cc
neither-of Neither blank e = refl

module _ (bytes : List ℕ) (p : ℕ) (e : layout_of bytes ≡ Twin) where
  has_blank : Bool
  has_blank = is_blank (part_of bytes (8192 * p) 4096) || is_blank (part_of bytes (8192 * p + 4096) 4096)

  -- the cells that stand in its first place, or in its second one
  pub first-cell : (c : ℕ) → c < 3 → 3 * p + c < 1048576
      → pair.First ≡ pair_of p (part_of bytes (8192 * p) 4096) (part_of bytes (8192 * p + 4096) 4096)
      → IsToldCell bytes (3 * p + c) (cell_from bytes (8192 * p + 928 + 1056 * c))
  unfolding current_in pair_in has_blank
  first-cell c low small told =
      let is = first-of (current_in bytes p) has_blank told in
      record {
        cell = cell-by Twin bytes (3 * p + c) _ e
            (cell-told (twin_byte bytes) bytes p (8192 * p + 928) c (byte-first bytes p is) low small);
        told = pair-as bytes p (3 * p + c) pair.First e (omega (arith, low)) told;
      }

  pub second-cell : (c : ℕ) → c < 3 → 3 * p + c < 1048576
      → pair.Second ≡ pair_of p (part_of bytes (8192 * p) 4096) (part_of bytes (8192 * p + 4096) 4096)
      → IsToldCell bytes (3 * p + c) (cell_from bytes (8192 * p + 4096 + 928 + 1056 * c))
  unfolding current_in pair_in has_blank
  second-cell c low small told =
      let is = second-of (current_in bytes p) has_blank told in
      record {
        cell = cell-by Twin bytes (3 * p + c) _ e
            (cell-told (twin_byte bytes) bytes p (8192 * p + 4096 + 928) c (byte-second bytes p is) low small);
        told = pair-as bytes p (3 * p + c) pair.Second e (omega (arith, low)) told;
      }

  -- those of one of which neither is told, and one is zeros
  pub neither-cell : (c : ℕ) → c < 3 → 3 * p + c < 1048576
      → pair.Blank ≡ pair_of p (part_of bytes (8192 * p) 4096) (part_of bytes (8192 * p + 4096) 4096)
      → IsToldCell bytes (3 * p + c) blank_cell
  unfolding current_in pair_in has_blank
  neither-cell c low small told =
      let is = neither-of (current_in bytes p) has_blank told in
      record {
        cell = cell-by Twin bytes (3 * p + c) _ e
            (cell-blank (twin_byte bytes) p c (byte-neither bytes p is) low small);
        told = pair-as bytes p (3 * p + c) pair.Blank e (omega (arith, low)) told;
      }

  -- and one of which neither is either
  pub pair-bad : pair.Bad ≡ pair_of p (part_of bytes (8192 * p) 4096) (part_of bytes (8192 * p + 4096) 4096)
      → is_told bytes p ≡ false
  unfolding pair_in
  pair-bad bad =
      ap (is_told bytes) {x = p} {y = 3 * p / 3} (omega arith) ∙ pair-as bytes p (3 * p) pair.Bad e (omega arith) bad
