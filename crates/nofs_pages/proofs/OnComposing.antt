-- The cells of some pages, put together from a row and from the pages.
use Rattle.std.proofs.Common.{◌≡◌, ℕ, ◌+◌, ◌-◌, ◌*◌, ◌/◌, ◌%◌, ◌<◌, ◌≤◌, ◌⊎◌, Bool, true, List, length}
use Rattle.std.proofs.Common.{take, drop, Result, Ok, Err}
use Rattle.std.proofs.Common.{arith, refl, sym, ap, ◌∙◌, inl, inr, subst}
use Rattle.std.specs.Prelude.{IfOk, IsTrue, slice_index, slice_range}
use Rattle.std.proofs.lemmas.Bool.{cases_lt}
use Rattle.std.proofs.lemmas.List.{get_or-drop, get_or-take, length-drop, length-take-le}
use Rattle.nofs_disk.specs.Number.{put_bytes}
use Rattle.nofs_disk.specs.declared.Failed.{Failed}
use Rattle.nofs_filedisk.proofs.OnMoving.Bytes.{put-before, put-behind, put-inside}
use Rattle.nofs_pages.specs.Views.{FetchesFirst, FetchesLast, HasTold, IsComposed, ReadsCells, ShowsCells, byte_over}
use Rattle.nofs_pages.specs.declared.row.Row.{Row}
use Rattle.nofs_pages.proofs.OnViews.{beside-row, in-row, over-same}

pub range-index : (l : List ℕ) (a b k : ℕ) → k < b - a → slice_index (slice_range l a b) k ≡ slice_index l (a + k)
range-index l a b k small = get_or-take (b - a) (drop a l) k 0 small ∙ get_or-drop a l k 0

-- One page

-- that was copied from the row
pub row-copied : (cells : List ℕ) (row : Row) (number to : ℕ) (old new : List ℕ) → row.first ≤ number
    → number < row.first + row.count
    → new ≡ put_bytes to
    (slice_range row.bytes.items (3168 * (number - row.first)) (3168 * (number - row.first) + 3168)) old
    → to + 3168 ≤ length old → ShowsCells (byte_over cells row) number 1 to old new
row-copied cells row number to old new low high is fits =
    let at = 3168 * (number - row.first) in
    let area = slice_range row.bytes.items at (at + 3168) in
    let most = row.most in
    let whole = row.size in
    let rest = length-drop at row.bytes.items in
    let cut : at + 3168 - at ≡ 3168 = omega arith in
    let len : length area ≡ 3168 =
    length-take-le (at + 3168 - at) (drop at row.bytes.items) (omega arith) ∙ cut in
    record {
      inside = λ i small.
          let place : at + i ≡ 3168 * number + i - 3168 * row.first = omega arith in
          ap (λ l. slice_index l (to + i)) is ∙ put-inside to i area old (omega arith) (omega arith)
          ∙ range-index row.bytes.items at (at + 3168) i (omega arith) ∙ ap (slice_index row.bytes.items) place
          ∙ sym (in-row cells row (3168 * number + i) (omega arith) (omega arith));
      others = λ i apart. elim apart [
        | inl front ↦ ap (λ l. slice_index l i) is ∙ put-before to i area old (omega arith) front
        | inr behind ↦ ap (λ l. slice_index l i) is ∙ put-behind to i area old (omega arith) (omega arith)
      ];
    }

-- that was shown, and is not the row's; or several
pub shown-beside : (cells : List ℕ) (row : Row) (first count to : ℕ) (old new : List ℕ)
    → (first + count ≤ row.first) ⊎ (row.first + row.count ≤ first)
    → ShowsCells (slice_index cells) first count to old new → ShowsCells (byte_over cells row) first count to old new
shown-beside cells row first count to old new apart shows = record {
  inside = λ i low. shows.inside i low ∙ sym (beside-row cells row (3168 * first + i) (elim apart [
    | inl before ↦ inl (omega arith)
    | inr behind ↦ inr (omega arith)
  ]));
  others = shows.others;
}

pub one-apart : (row : Row) (number : ℕ) → (number < row.first) ⊎ (row.first + row.count ≤ number)
    → (number + 1 ≤ row.first) ⊎ (row.first + row.count ≤ number)
one-apart row number (inl low) = inl (omega arith)
one-apart row number (inr high) = inr high

pub if-ok : {P Q : Bool → Type 0} (r : Result Bool Failed) → ((b : Bool) → P b → Q b) → IfOk r P → IfOk r Q
if-ok (Ok b) goes p = goes b p
if-ok (Err e) goes p = tt

-- One page after the other

pub cells-begin : (cells : ℕ → ℕ) (first : ℕ) (old : List ℕ) → ShowsCells cells first 0 0 old old
cells-begin cells first old =
    record { inside = λ i low. absurd (omega (arith, low)); others = λ i apart. refl }

pub cells-next : (cells other : ℕ → ℕ) (first at : ℕ) (old mid new : List ℕ) → ((k : ℕ) → other k ≡ cells k)
    → ShowsCells cells first at 0 old mid → ShowsCells other (first + at) 1 (3168 * at) mid new
    → ShowsCells cells first (at + 1) 0 old new
cells-next cells other first at old mid new same before one = record {
  inside = λ i low. elim (cases_lt i (3168 * at)) [
    | inl early ↦
        let here : 0 + i ≡ i = omega arith in
        let there : i ≡ 0 + i = omega arith in
        ap (slice_index new) here ∙ one.others i (inl early) ∙ ap (slice_index mid) there ∙ before.inside i early
    | inr late ↦
        let k = i - 3168 * at in
        let index : 0 + i ≡ 3168 * at + k = omega arith in
        let place : 3168 * (first + at) + k ≡ 3168 * first + i = omega arith in
        ap (slice_index new) index ∙ one.inside k (omega arith) ∙ same (3168 * (first + at) + k) ∙ ap cells place
  ];
  others = λ i apart. elim apart [
    | inl none ↦ absurd (omega arith)
    | inr behind ↦ one.others i (inr (omega arith)) ∙ before.others i (inr (omega arith))
  ];
}

pub told-next : (told other : ℕ → Type 0) (row : Row) (first at : ℕ) → ((p : ℕ) → told p → other p)
    → HasTold told row first at → HasTold other row (first + at) 1 → HasTold other row first (at + 1)
told-next told other row first at more before one j low = elim (cases_lt j at) [
  | inl early ↦ elim (before j early) [ inl has ↦ inl has | inr is ↦ inr (more (first + j) is) ]
  | inr late ↦
      let same : first + at + 0 ≡ first + j = omega arith in
      let F : ℕ → Type 0 = λ p. ((row.first ≤ p) × (p < row.first + row.count)) ⊎ other p in
      subst F same (one 0 (omega arith))
]

-- The last page

last-fetched : (cells : ℕ → ℕ) (first count end : ℕ) (old new : List ℕ) → 1 < count
    → ShowsCells cells (first + (count - 1)) 1 (3168 * (count - 1)) old new → FetchesLast cells first count end old new
last-fetched cells first count end old new many shows = record {
  last = λ m e i low high.
      let k = i - 3168 * (count - 1) in
      let index : i ≡ 3168 * (count - 1) + k = omega arith in
      let place : 3168 * (first + (count - 1)) + k ≡ 3168 * first + i = omega arith in
      ap (slice_index new) index ∙ shows.inside k (omega arith) ∙ ap cells place;
  before = λ i apart. elim apart [
    | inl front ↦ shows.others i (inl front)
    | inr few ↦ absurd (omega arith)
  ];
}

pub last-fetched-ok : (cells : ℕ → ℕ) (tells : Bool) (first count end : ℕ) (old new : List ℕ) (r : Result Bool Failed)
    → 1 < count
    → IfOk r (λ all. IsTrue all → IsTrue tells → ShowsCells cells (first + (count - 1)) 1 (3168 * (count - 1)) old new)
    → IfOk r (λ all. IsTrue all → IsTrue tells → FetchesLast cells first count end old new)
last-fetched-ok cells tells first count end old new r many shows =
    if-ok r
    (λ b (s : IsTrue b → IsTrue tells → ShowsCells cells (first + (count - 1)) 1 (3168 * (count - 1)) old new) all t.
    last-fetched cells first count end old new many (s all t)) shows

-- All is put together

pub composed : (cells other : ℕ → ℕ) (first offset count : ℕ) (from one two new : List ℕ)
    → ((k : ℕ) → other k ≡ cells k)
    → count ≡ (offset + length from + 3167) / 3168 → 0 < length from → offset < 3168
    → offset + length from ≤ 101376 → length two ≡ 101376
    → FetchesFirst cells first offset (offset + length from) one
    → FetchesLast other first count (offset + length from) one two → new ≡ put_bytes offset from two
    → IsComposed cells first offset from new
composed cells other first offset count from one two new same pages some low fits size begins ends is = record {
  front = λ i front. ap (λ l. slice_index l i) is ∙ put-before offset i from two (omega arith) front
      ∙ ends.before i (in-front i front) ∙ begins (inl (omega arith)) i (omega arith);
  part = λ i small. ap (λ l. slice_index l (offset + i)) is ∙ put-inside offset i from two (omega arith) small;
  back = λ i behind high. ap (λ l. slice_index l i) is ∙ put-behind offset i from two (omega arith) behind
      ∙ elim (cases_lt 1 count) [
        | inl many ↦ ends.last many (omega arith) i (omega arith) (omega arith) ∙ same (3168 * first + i)
        | inr few ↦ ends.before i (inr few) ∙ begins (inr (omega arith)) i (omega arith)
      ];
}
  where
    in-front : (i : ℕ) → i < offset → (i < 3168 * (count - 1)) ⊎ (count ≤ 1)
    in-front i front = elim (cases_lt 1 count) [ inl many ↦ inl (omega arith) | inr few ↦ inr few ]

-- bytes of the cells that were shown from the first page on
pub cells-read : (cells : ℕ → ℕ) (first offset count pages : ℕ) (old areas into : List ℕ)
    → ShowsCells cells first pages 0 old areas → offset + count ≤ 3168 * pages
    → take count into ≡ slice_range areas offset (offset + count)
    → ReadsCells cells (3168 * first + offset) count into
cells-read cells first offset count pages old areas into shows fits is i low =
    let none : offset + i ≡ 0 + (offset + i) = omega arith in
    let place : 3168 * first + (offset + i) ≡ 3168 * first + offset + i = omega arith in
    sym (get_or-take count into i 0 low) ∙ ap (λ l. slice_index l i) is
    ∙ range-index areas offset (offset + count) i (omega arith)
    ∙ ap (slice_index areas) none ∙ shows.inside (offset + i) (omega arith) ∙ ap cells place

-- bytes of the cells of whole pages, which were shown from the front on and are not the row's
pub whole-read : (cells : List ℕ) (row : Row) (first count : ℕ) (old into : List ℕ)
    → (first + count / 3168 ≤ row.first) ⊎ (row.first + row.count ≤ first) → count % 3168 ≡ 0
    → ShowsCells (slice_index cells) first (count / 3168) 0 old into
    → ReadsCells (byte_over cells row) (3168 * first) count into
whole-read cells row first count old into apart whole shows i low =
    let none : i ≡ 0 + i = omega arith in
    let beside = shown-beside cells row first (count / 3168) 0 old into apart shows in
    ap (slice_index into) none ∙ beside.inside i (omega arith)

pub whole-told : (told : ℕ → Type 0) (row : Row) (first count : ℕ) → count % 3168 ≡ 0
    → ((j : ℕ) → j < count / 3168 → told (first + j)) → HasTold told row first ((count + 3167) / 3168)
whole-told told row first count whole is j low = inr (is j (omega arith))

pub composed-same : (cells other : ℕ → ℕ) (first offset : ℕ) (from areas : List ℕ) → ((k : ℕ) → other k ≡ cells k)
    → IsComposed cells first offset from areas → IsComposed other first offset from areas
composed-same cells other first offset from areas same has = record {
  front = λ i low. has.front i low ∙ sym (same (3168 * first + i));
  part = has.part;
  back = λ i low high. has.back i low high ∙ sym (same (3168 * first + i));
}
