-- What a file of pages shows, before and after its calls.
use Rattle.std.proofs.Common.{◌≡◌, ℕ, ◌+◌, ◌-◌, ◌*◌, ◌/◌, ◌%◌, ◌<◌, ◌≤◌, ◌⊎◌, Bool, true, false, List, [], length, take}
use Rattle.std.proofs.Common.{arith, refl, sym, ap, ◌∙◌, inl, inr, subst, cond, Result, Ok, Err}
use Rattle.std.proofs.Math.Logic.{∥∥₁_elim, ∥∥₁_prop}
use Rattle.std.specs.Prelude.{◌&&◌, IsTrue, OnOk, max, nat_le, nat_lt, slice_index}
use Rattle.std.proofs.lemmas.Bool.{and_from, and_left, and_right, cases_lt, cond-false, cond-true, le-leb, le-ltb}
use Rattle.std.proofs.lemmas.Bool.{lt-leb, lt-ltb}
use Rattle.std.proofs.lemmas.List.{length-take-le, take_all}
use Rattle.nofs_disk.specs.Number.{put_bytes}
use Rattle.nofs_disk.specs.CellsOfBytes.{cell_in}
use Rattle.nofs_disk.specs.declared.Failed.{Failed}
use Rattle.nofs_filedisk.specs.Bytes.{HostFileState, IsPartlyPut, IsPut, IsSynced, KeepsBytes, KeepsDurable, grown}
use Rattle.nofs_filedisk.proofs.OnMoving.Bytes.{grown-some, put-before, put-behind, put-inside}
use Rattle.nofs_pages.specs.Laws.{all_bytes-same, at-all_bytes, length-all_bytes, past-all_bytes}
use Rattle.nofs_pages.specs.Stores.{KeepsCells}
use Rattle.nofs_pages.specs.Views.{EndsWithin, HasFront, HasRest, IsComposed, IsOld, IsPlainRow, StoreState, all_bytes}
use Rattle.nofs_pages.specs.Views.{byte_over}
use Rattle.nofs_pages.specs.Views.{paged_state, shown}
use Rattle.nofs_pages.specs.declared.put_pages.PutPages.{PutPages}
use Rattle.nofs_pages.specs.declared.row.Row.{Row}

-- Parts

pub length-take-most : (n : ℕ) (l : List ℕ) → length (take n l) ≤ n
length-take-most n l = elim (cases_lt n (length l)) [
  | inl low ↦
      let size = length-take-le n l (omega arith) in
      omega arith
  | inr high ↦
      let all = ap length (take_all n l high) in
      omega arith
]

pub whole-partly : (at : ℕ) (part a b : List ℕ) → IsPut at part a b → IsPartlyPut at part a b
whole-partly at part a b put =
    let F : List ℕ → Type 0 = λ l. IsPut at l a b in
    record {
      count = length part;
      fits = omega arith;
      put = subst F (sym (take_all (length part) part (omega arith))) put;
    }

-- A byte in the row, and outside of it

pub in-row : (cells : List ℕ) (row : Row) (k : ℕ) → 3168 * row.first ≤ k → k < 3168 * row.first + 3168 * row.count
    → byte_over cells row k ≡ slice_index row.bytes.items (k - 3168 * row.first)
unfolding byte_over
in-row cells row k low high =
    cond-true _ _ _ (and_from (nat_le (3168 * row.first) k) (nat_lt k (3168 * row.first + 3168 * row.count))
    (le-leb (3168 * row.first) k low) (lt-ltb k (3168 * row.first + 3168 * row.count) high))

pub beside-row : (cells : List ℕ) (row : Row) (k : ℕ)
    → (k < 3168 * row.first) ⊎ (3168 * row.first + 3168 * row.count ≤ k) → byte_over cells row k ≡ slice_index cells k
unfolding byte_over
beside-row cells row k (inl low) =
    cond-false _ _ _ (and_left (nat_le (3168 * row.first) k) (nat_lt k (3168 * row.first + 3168 * row.count))
    (lt-leb (3168 * row.first) k low))
beside-row cells row k (inr high) =
    cond-false _ _ _ (and_right (nat_le (3168 * row.first) k) (nat_lt k (3168 * row.first + 3168 * row.count))
    (le-ltb k (3168 * row.first + 3168 * row.count) high))

-- by cases
pub data Where (row : Row) (k : ℕ) : Type 0 where
  Inside : 3168 * row.first ≤ k → k < 3168 * row.first + 3168 * row.count → Where row k
  Beside : (k < 3168 * row.first) ⊎ (3168 * row.first + 3168 * row.count ≤ k) → Where row k

pub where_is : (row : Row) (k : ℕ) → Where row k
where_is row k = elim (cases_lt k (3168 * row.first)) [
  | inl low ↦ Beside (inl low)
  | inr from ↦ elim (cases_lt k (3168 * row.first + 3168 * row.count)) [
    | inl to ↦ Inside from to
    | inr high ↦ Beside (inr high)
  ]
]

-- where the pages have what the row has
pub plain-over : (cells : List ℕ) (row : Row) → IsPlainRow cells row → (k : ℕ)
    → byte_over cells row k ≡ slice_index cells k
plain-over cells row plain k = go (where_is row k)
  where
    go : Where row k → byte_over cells row k ≡ slice_index cells k
    go (Inside low high) = in-row cells row k low high ∙ plain k low high
    go (Beside apart) = beside-row cells row k apart

-- over the same pages
pub over-same : (cells other : List ℕ) (row : Row) (k : ℕ) → slice_index other k ≡ slice_index cells k
    → byte_over other row k ≡ byte_over cells row k
over-same cells other row k same = go (where_is row k)
  where
    go : Where row k → byte_over other row k ≡ byte_over cells row k
    go (Inside low high) = in-row other row k low high ∙ sym (in-row cells row k low high)
    go (Beside apart) = beside-row other row k apart ∙ same ∙ sym (beside-row cells row k apart)

pub plain-same : (cells other : List ℕ) (row : Row) → ((k : ℕ) → slice_index other k ≡ slice_index cells k)
    → IsPlainRow cells row → IsPlainRow other row
plain-same cells other row same plain k low high = plain k low high ∙ sym (same k)

-- over pages of which the row's first ones alone are others
pub over-front : (cells other : List ℕ) (row : Row) (count : ℕ) → count ≤ row.count
    → ((k : ℕ) → (k < 3168 * row.first) ⊎ (3168 * row.first + 3168 * count ≤ k)
    → slice_index other k ≡ slice_index cells k)
    → (k : ℕ) → byte_over other row k ≡ byte_over cells row k
over-front cells other row count few others k = go (where_is row k)
  where
    go : Where row k → byte_over other row k ≡ byte_over cells row k
    go (Inside low high) = in-row other row k low high ∙ sym (in-row cells row k low high)
    go (Beside (inl low)) = beside-row other row k (inl low) ∙ others k (inl low)
        ∙ sym (beside-row cells row k (inl low))
    go (Beside (inr high)) =
        beside-row other row k (inr high) ∙ others k (inr (omega arith)) ∙ sym (beside-row cells row k (inr high))

-- What contracts see

pub shown-same : (t u : Bool) (x y : List ℕ) → u ≡ t → (IsTrue t → y ≡ x) → shown u y ≡ shown t x
shown-same t u x y e same = subst (λ b. shown b y ≡ shown t x) (sym e) (go t same)
  where
    go : (b : Bool) → (IsTrue b → y ≡ x) → shown b y ≡ shown b x
    go true s = s refl
    go false s = refl

pub shown-told : (t : Bool) (x : List ℕ) → IsTrue t → shown t x ≡ x
shown-told t x tells = ap (λ b. shown b x) tells

durable-same : (old new synced : StoreState) → new.tells ≡ old.tells
    → shown new.tells (all_bytes (slice_index synced.bytes)) ≡ shown old.tells (all_bytes (slice_index synced.bytes))
durable-same old new synced tells = ap (λ b. shown b (all_bytes (slice_index synced.bytes))) tells

bytes-same : (old new : StoreState) (row next : Row) → new.tells ≡ old.tells
    → (IsTrue old.tells → (k : ℕ) → byte_over new.bytes next k ≡ byte_over old.bytes row k)
    → shown new.tells (all_bytes (byte_over new.bytes next)) ≡ shown old.tells (all_bytes (byte_over old.bytes row))
bytes-same old new row next tells same =
    shown-same old.tells new.tells (all_bytes (byte_over old.bytes row)) (all_bytes (byte_over new.bytes next)) tells
    (λ t. all_bytes-same (byte_over new.bytes next) (byte_over old.bytes row) (λ k low. same t k))

-- a call that changes no byte of a cell
pub keeps-view : (old new synced : StoreState) (row next : Row) (f g : ℕ) → new.tells ≡ old.tells → f ≤ g
    → (IsTrue old.tells → (k : ℕ) → byte_over new.bytes next k ≡ byte_over old.bytes row k)
    → KeepsBytes (paged_state old synced row f) (paged_state new synced next g)
keeps-view old new synced row next f g tells more same = record {
  tells = tells;
  faults = more;
  bytes = bytes-same old new row next tells same;
  durable = durable-same old new synced tells;
}

pub keeps-cells : (old new synced : StoreState) (row : Row) (f g : ℕ) → KeepsCells old new → f ≤ g
    → KeepsBytes (paged_state old synced row f) (paged_state new synced row g)
keeps-cells old new synced row f g keeps more =
    keeps-view old new synced row row f g keeps.tells more
    (λ tells k. over-same old.bytes new.bytes row k (keeps.bytes tells k))

pub keeps-trans : (a b c : HostFileState) → KeepsBytes a b → KeepsBytes b c → KeepsBytes a c
keeps-trans a b c one two =
    let first = one.faults in
    let second = two.faults in
    record {
      tells = two.tells ∙ one.tells;
      faults = omega (arith, first, second);
      bytes = two.bytes ∙ one.bytes;
      durable = two.durable ∙ one.durable;
    }

-- one that makes nothing durable
pub keeps-durable : (old new synced : StoreState) (row next : Row) (f g : ℕ) → new.tells ≡ old.tells → f ≤ g
    → KeepsDurable (paged_state old synced row f) (paged_state new synced next g)
keeps-durable old new synced row next f g tells more =
    record { tells = tells; faults = more; durable = durable-same old new synced tells }

-- the bytes of cells, where the pages tell
pub at-view : (store synced : StoreState) (row : Row) (f k : ℕ) → IsTrue store.tells → k < 1107296256
    → slice_index (paged_state store synced row f).bytes k ≡ byte_over store.bytes row k
at-view store synced row f k tells low =
    ap (λ l. slice_index l k) (shown-told store.tells (all_bytes (byte_over store.bytes row)) tells)
    ∙ at-all_bytes (byte_over store.bytes row) k low

pub past-view : (store synced : StoreState) (row : Row) (f k : ℕ) → IsTrue store.tells → 1107296256 ≤ k
    → slice_index (paged_state store synced row f).bytes k ≡ 0
past-view store synced row f k tells past =
    ap (λ l. slice_index l k) (shown-told store.tells (all_bytes (byte_over store.bytes row)) tells)
    ∙ past-all_bytes (byte_over store.bytes row) k past

pub length-view : (store synced : StoreState) (row : Row) (f : ℕ) → IsTrue store.tells
    → length (paged_state store synced row f).bytes ≡ 1107296256
length-view store synced row f tells =
    ap length (shown-told store.tells (all_bytes (byte_over store.bytes row)) tells)
    ∙ length-all_bytes (byte_over store.bytes row)

-- all that they have is durable
pub view-synced : (old new : StoreState) (row : Row) (f g : ℕ) → new.tells ≡ old.tells
    → (IsTrue old.tells → (k : ℕ) → slice_index new.bytes k ≡ byte_over old.bytes row k) → (synced : StoreState)
    → (paged_state new new row g).durable ≡ (paged_state old synced row f).bytes
view-synced old new row f g tells same synced =
    shown-same old.tells new.tells (all_bytes (byte_over old.bytes row)) (all_bytes (slice_index new.bytes)) tells
    (λ t. all_bytes-same (slice_index new.bytes) (byte_over old.bytes row) (λ k low. same t k))

-- Bytes are put

module _ (old new synced : StoreState) (row next : Row) (f g at : ℕ) (from : List ℕ)
    (tells : IsTrue old.tells) (same : new.tells ≡ old.tells) (some : 0 < length from)
    (place : at + length from ≤ 1107296256)
    (here : (i : ℕ) → i < length from → byte_over new.bytes next (at + i) ≡ slice_index from i)
    (beside : (k : ℕ) → (k < at) ⊎ (at + length from ≤ k) → byte_over new.bytes next k ≡ byte_over old.bytes row k)
  where
    stays : (k : ℕ) → (k < at) ⊎ (at + length from ≤ k)
        → slice_index (paged_state new synced next g).bytes k ≡ slice_index (paged_state old synced row f).bytes k
    stays k apart = elim (cases_lt k 1107296256) [
      | inl small ↦ at-view new synced next g k (same ∙ tells) small ∙ beside k apart
          ∙ sym (at-view old synced row f k tells small)
      | inr past ↦ past-view new synced next g k (same ∙ tells) past ∙ sym (past-view old synced row f k tells past)
    ]

    pub view-put : IsPut at from (paged_state old synced row f).bytes (paged_state new synced next g).bytes
    view-put = record {
      inside = λ i low. at-view new synced next g (at + i) (same ∙ tells) (omega arith) ∙ here i low;
      before = λ k low. stays k (inl low);
      behind = λ k high. stays k (inr high);
      len =
          let size_old = length-view old synced row f tells in
          let size_new = length-view new synced next g (same ∙ tells) in
          let whole : max (length (paged_state old synced row f).bytes) (at + length from) ≡ 1107296256 = omega arith in
          size_new ∙ sym whole
          ∙ sym (grown-some (length (paged_state old synced row f).bytes) at (length from) some);
    }

-- among those of a row
module _ (store synced : StoreState) (row next : Row) (f first offset : ℕ) (from : List ℕ)
    (tells : IsTrue store.tells) (some : 0 < length from)
    (place : 3168 * first + offset + length from ≤ 1107296256)
    (low_page : row.first ≤ first)
    (high_page : first + (offset + length from + 3167) / 3168 ≤ row.first + row.count)
    (same_first : next.first ≡ row.first) (same_count : next.count ≡ row.count)
    (put : next.bytes.items ≡ put_bytes (3168 * (first - row.first) + offset) from row.bytes.items)
  where
    fits : 3168 * (first - row.first) + offset + length from ≤ length row.bytes.items
    fits =
        let size = row.size in
        let most = row.most in
        omega arith

    index : (k : ℕ) → slice_index next.bytes.items (k - 3168 * next.first)
        ≡ slice_index (put_bytes (3168 * (first - row.first) + offset) from row.bytes.items) (k - 3168 * row.first)
    index k = ap (λ l. slice_index l (k - 3168 * next.first)) put
        ∙ ap (λ n. slice_index (put_bytes (3168 * (first - row.first) + offset) from row.bytes.items) (k - 3168 * n))
        same_first

    here-inside : (i : ℕ) → i < length from
        → byte_over store.bytes next (3168 * first + offset + i) ≡ slice_index from i
    here-inside i low =
        let k = 3168 * first + offset + i in
        let room = fits in
        let place_in : k - 3168 * row.first ≡ 3168 * (first - row.first) + offset + i = omega arith in
        in-row store.bytes next k (omega (arith, same_first)) (omega (arith, same_first, same_count)) ∙ index k
        ∙ ap (slice_index (put_bytes (3168 * (first - row.first) + offset) from row.bytes.items)) place_in
        ∙ put-inside (3168 * (first - row.first) + offset) i from row.bytes.items (omega (arith, room)) low

    beside-inside : (k : ℕ) → (k < 3168 * first + offset) ⊎ (3168 * first + offset + length from ≤ k)
        → byte_over store.bytes next k ≡ byte_over store.bytes row k
    beside-inside k apart = go (where_is row k)
      where
        go : Where row k → byte_over store.bytes next k ≡ byte_over store.bytes row k
        go (Inside low high) =
            let room = fits in
            in-row store.bytes next k (omega (arith, same_first)) (omega (arith, same_first, same_count)) ∙ index k
            ∙ elim apart [
              | inl before ↦
                  put-before (3168 * (first - row.first) + offset) (k - 3168 * row.first) from row.bytes.items
                  (omega (arith, room)) (omega arith)
              | inr behind ↦
                  put-behind (3168 * (first - row.first) + offset) (k - 3168 * row.first) from row.bytes.items
                  (omega (arith, room)) (omega arith)
            ]
            ∙ sym (in-row store.bytes row k low high)
        go (Beside (inl low)) =
            beside-row store.bytes next k (inl (omega (arith, same_first)))
            ∙ sym (beside-row store.bytes row k (inl low))
        go (Beside (inr high)) =
            beside-row store.bytes next k (inr (omega (arith, same_first, same_count)))
            ∙ sym (beside-row store.bytes row k (inr high))

    pub put-in-row : IsPut (3168 * first + offset) from (paged_state store synced row f).bytes
        (paged_state store synced next f).bytes
    put-in-row =
        view-put store store synced row next f f (3168 * first + offset) from tells refl some place here-inside
        beside-inside

-- as a new row
module _ (old new synced : StoreState) (row next : Row) (f g first offset : ℕ) (from : List ℕ)
    (tells : IsTrue old.tells) (same : new.tells ≡ old.tells) (some : 0 < length from)
    (place : 3168 * first + offset + length from ≤ 1107296256)
    (composed : IsComposed (byte_over old.bytes row) first offset from next.bytes.items)
    (first_is : next.first ≡ first) (count_is : next.count ≡ (offset + length from + 3167) / 3168)
    (rest : (k : ℕ) → (k < 3168 * first) ⊎ (3168 * first + 3168 * ((offset + length from + 3167) / 3168) ≤ k)
    → slice_index new.bytes k ≡ byte_over old.bytes row k)
  where
    in-next : (k : ℕ) → 3168 * first ≤ k → k < 3168 * first + 3168 * ((offset + length from + 3167) / 3168)
        → byte_over new.bytes next k ≡ slice_index next.bytes.items (k - 3168 * first)
    in-next k low high =
        in-row new.bytes next k (omega (arith, first_is)) (omega (arith, first_is, count_is))
        ∙ ap (λ n. slice_index next.bytes.items (k - 3168 * n)) first_is

    beside-next : (k : ℕ)
        → (k < 3168 * first) ⊎ (3168 * first + 3168 * ((offset + length from + 3167) / 3168) ≤ k)
        → byte_over new.bytes next k ≡ byte_over old.bytes row k
    beside-next k (inl low) = beside-row new.bytes next k (inl (omega (arith, first_is))) ∙ rest k (inl low)
    beside-next k (inr high) =
        beside-row new.bytes next k (inr (omega (arith, first_is, count_is))) ∙ rest k (inr high)

    here-next : (i : ℕ) → i < length from → byte_over new.bytes next (3168 * first + offset + i) ≡ slice_index from i
    here-next i low =
        let index : 3168 * first + offset + i - 3168 * first ≡ offset + i = omega arith in
        in-next (3168 * first + offset + i) (omega arith) (omega arith) ∙ ap (slice_index next.bytes.items) index
        ∙ composed.part i low

    stays-next : (k : ℕ) → (k < 3168 * first + offset) ⊎ (3168 * first + offset + length from ≤ k)
        → byte_over new.bytes next k ≡ byte_over old.bytes row k
    stays-next k (inl low) = elim (cases_lt k (3168 * first)) [
      | inl under ↦ beside-next k (inl under)
      | inr inside ↦
          let index : 3168 * first + (k - 3168 * first) ≡ k = omega arith in
          in-next k inside (omega arith) ∙ composed.front (k - 3168 * first) (omega arith)
          ∙ ap (byte_over old.bytes row) index
    ]
    stays-next k (inr high) =
        elim (cases_lt k (3168 * first + 3168 * ((offset + length from + 3167) / 3168))) [
          | inl inside ↦
              let index : 3168 * first + (k - 3168 * first) ≡ k = omega arith in
              in-next k (omega arith) inside ∙ composed.back (k - 3168 * first) (omega arith) (omega arith)
              ∙ ap (byte_over old.bytes row) index
          | inr beside ↦ beside-next k (inr beside)
        ]

    pub put-turned : IsPut (3168 * first + offset) from (paged_state old synced row f).bytes
        (paged_state new synced next g).bytes
    put-turned =
        view-put old new synced row next f g (3168 * first + offset) from tells same some place here-next stays-next

-- the pages have all but what a new row has, where the one before was among them
pub rest-plain : (cells : List ℕ) (row : Row) → IsPlainRow cells row
    → (k : ℕ) → slice_index cells k ≡ byte_over cells row k
rest-plain cells row plain k = sym (plain-over cells row plain k)

-- or where its front was put
pub rest-front : (old new : List ℕ) (row : Row) (first count : ℕ) → EndsWithin row first count
    → ((k : ℕ) → byte_over new row k ≡ byte_over old row k) → HasFront new row (first - row.first)
    → (k : ℕ) → (k < 3168 * first) ⊎ (3168 * first + 3168 * count ≤ k) → slice_index new k ≡ byte_over old row k
rest-front old new row first count ends view front k apart = go (where_is row k)
  where
    go : Where row k → slice_index new k ≡ byte_over old row k
    go (Inside low high) =
        let a = ends.low in
        let b = ends.inside in
        let c = ends.high in
        elim apart [
          | inl under ↦ sym (front k low (omega arith)) ∙ sym (in-row new row k low high) ∙ view k
          | inr behind ↦ absurd (omega arith)
        ]
    go (Beside beside) = sym (beside-row new row k beside) ∙ view k

-- a row of no page
pub no-row : (cells : List ℕ) (row : Row) → row.count ≡ 0 → IsPlainRow cells row
no-row cells row none k low high = absurd (omega (arith, none, low, high))

pub empty-synced : (store : StoreState) (row : Row) (f : ℕ) → row.count ≡ 0 → IsSynced (paged_state store store row f)
empty-synced store row f none tells b =
    ap (λ l. cell_in l b) (view-synced store store row f f refl
    (λ t k. rest-plain store.bytes row (no-row store.bytes row none) k) store)

-- Which pages are durable

-- all but those that were put
rests-after : (rests others : ℕ → Type 0) (put next : PutPages) (first count : ℕ)
    → ((p : ℕ) → IsOld put p → ∥ rests p ∥₁)
    → ((p : ℕ) → first ≤ p → p < first + count → slice_index next.pages.items p ≡ 1)
    → ((p : ℕ) → (p < first) ⊎ (first + count ≤ p)
    → slice_index next.pages.items p ≡ slice_index put.pages.items p)
    → ((p : ℕ) → (p < first) ⊎ (first + count ≤ p) → rests p → others p)
    → (p : ℕ) → IsOld next p → ∥ others p ∥₁
rests-after rests others put next first count before here same stay p old =
    elim (cases_lt p first) [
      | inl low ↦ beside (inl low)
      | inr from ↦ elim (cases_lt p (first + count)) [
        | inl to ↦
            let is = here p from to in
            absurd (omega (arith, is, old))
        | inr high ↦ beside (inr high)
      ]
    ]
  where
    beside : (p < first) ⊎ (first + count ≤ p) → ∥ others p ∥₁
    beside apart = ∥∥₁_elim (before p (sym (same p apart) ∙ old)) ∥∥₁_prop (λ rests. ∣ stay p apart rests ∣₁)

pub rests-front : (rests others : ℕ → Type 0) (put next : PutPages) (first count : ℕ) (r : Result (Unit {0}) Failed)
    → ((p : ℕ) → IsOld put p → ∥ rests p ∥₁)
    → ((p : ℕ) → first ≤ p → p < first + count → slice_index next.pages.items p ≡ 1)
    → ((p : ℕ) → (p < first) ⊎ (first + count ≤ p)
    → slice_index next.pages.items p ≡ slice_index put.pages.items p)
    → ((p : ℕ) → (p < first) ⊎ (first + count ≤ p) → rests p → others p)
    → OnOk r ((p : ℕ) → IsOld next p → ∥ others p ∥₁)
rests-front rests others put next first count (Err e) before here same stay = tt
rests-front rests others put next first count (Ok u) before here same stay =
    rests-after rests others put next first count before here same stay

pub rests-map : (rests others : ℕ → Type 0) (put : PutPages) → ((p : ℕ) → rests p → others p)
    → ((p : ℕ) → IsOld put p → ∥ rests p ∥₁) → (p : ℕ) → IsOld put p → ∥ others p ∥₁
rests-map rests others put stay before p old = ∥∥₁_elim (before p old) ∥∥₁_prop (λ rests. ∣ stay p rests ∣₁)

pub rest-front-ok : (old new : StoreState) (row : Row) (first count : ℕ) (r : Result (Unit {0}) Failed)
    → EndsWithin row first count
    → (IsTrue old.tells → (k : ℕ) → byte_over new.bytes row k ≡ byte_over old.bytes row k)
    → OnOk r (IsTrue old.tells → HasFront new.bytes row (first - row.first))
    → OnOk r (IsTrue old.tells → HasRest new.bytes (byte_over old.bytes row) first count)
rest-front-ok old new row first count (Err e) ends view front = tt
rest-front-ok old new row first count (Ok u) ends view front =
    λ tells. rest-front old.bytes new.bytes row first count ends (view tells) (front tells)
