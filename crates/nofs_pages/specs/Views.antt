-- The bytes of the cells of a file, with a row in place of what the file has there.
use Rattle.std.specs.Prelude.{◌≡◌, ℕ, ◌+◌, ◌-◌, ◌*◌, ◌/◌, ◌<◌, ◌≤◌, ◌⊎◌, ◌&&◌, Bool, true, false, List, []}
use Rattle.std.specs.Prelude.{if◌then◌else◌, length, map, nat_le, nat_lt, slice_index}
use Rattle.std.specs.List.{range_with_len}
use Rattle.nofs_filedisk.specs.Bytes.{HostFileState}
use Rattle.nofs_pages.specs.declared.put_pages.PutPages.{PutPages}
use Rattle.nofs_pages.specs.declared.row.Row.{Row}

-- so many bytes
unfoldable pub bytes_by : (ℕ → ℕ) → ℕ → List ℕ
bytes_by f n = map f (range_with_len 0 n)

-- the bytes of all 1,048,576 cells
unfoldable pub all_bytes : (ℕ → ℕ) → List ℕ
all_bytes f = bytes_by f 1107296256

-- the bytes of the cells of all 349,526 pages
unfoldable pub page_bytes : (ℕ → ℕ) → List ℕ
page_bytes f = bytes_by f 1107298368

-- bytes that are known where a file tells them
abbrev pub shown : Bool → List ℕ → List ℕ
shown true bytes = bytes
shown false bytes = []

-- a byte of cells, where a row stands in place of what is there
unfoldable pub byte_over : List ℕ → Row → ℕ → ℕ
byte_over cells row k =
    if nat_le (3168 * row.first) k && nat_lt k (3168 * row.first + 3168 * row.count)
    then slice_index row.bytes.items (k - 3168 * row.first)
    else slice_index cells k

-- the cells of so many pages from the row's first one on are those of the row
abbrev pub HasFront : List ℕ → Row → ℕ → Type 0
HasFront cells row count =
    (k : ℕ) → 3168 * row.first ≤ k → k < 3168 * row.first + 3168 * count
    → slice_index row.bytes.items (k - 3168 * row.first) ≡ slice_index cells k

-- so are those of all its pages
abbrev pub IsPlainRow : List ℕ → Row → Type 0
IsPlainRow cells row = HasFront cells row row.count

-- what contracts see of pages
pub record StoreState : Type 0 where
  -- whether they tell what they have
  pub tells : Bool
  -- the bytes of their cells, one behind the other
  pub bytes : List ℕ
  -- how often a call has failed
  pub faults : ℕ

-- what contracts see of them as a file, with a row in place of what they have there: durable is what they had when a
-- sync last succeeded
abbrev pub paged_state : StoreState → StoreState → Row → ℕ → HostFileState
paged_state store synced row faults = record {
  tells = store.tells;
  bytes = shown store.tells (all_bytes (byte_over store.bytes row));
  durable = shown store.tells (all_bytes (slice_index synced.bytes));
  faults = faults;
}

-- a row goes on as far as some pages at most, the first of which it has
pub record EndsWithin (row : Row) (first count : ℕ) : Type 0 where
  pub low : row.first ≤ first
  pub inside : first < row.first + row.count
  pub high : row.first + row.count ≤ first + count

-- beside some pages the cells are these
abbrev pub HasRest : List ℕ → (ℕ → ℕ) → ℕ → ℕ → Type 0
HasRest cells wanted first count =
    (k : ℕ) → (k < 3168 * first) ⊎ (3168 * first + 3168 * count ≤ k) → slice_index cells k ≡ wanted k

-- a page was not put since the last sync
abbrev pub IsOld : PutPages → ℕ → Type 0
IsOld put p = slice_index put.pages.items p ≡ 0

-- none of some pages was
abbrev pub AreOld : PutPages → ℕ → ℕ → Type 0
AreOld put first count = (p : ℕ) → first ≤ p → p < first + count → IsOld put p

-- each of some pages is told, or the row has it
abbrev pub HasTold : (ℕ → Type 0) → Row → ℕ → ℕ → Type 0
HasTold told row first count =
    (j : ℕ) → j < count
    → ((row.first ≤ first + j) × (first + j < row.first + row.count)) ⊎ told (first + j)

-- from a place on stand the bytes of the cells of some pages, and all else stays
pub record ShowsCells (cells : ℕ → ℕ) (first count to : ℕ) (old new : List ℕ) : Type 0 where
  pub inside : (i : ℕ) → i < 3168 * count → slice_index new (to + i) ≡ cells (3168 * first + i)
  pub others : (i : ℕ) → (i < to) ⊎ (to + 3168 * count ≤ i) → slice_index new i ≡ slice_index old i

-- where some bytes go to a part of the first page alone, it is there
abbrev pub FetchesFirst : (ℕ → ℕ) → ℕ → ℕ → ℕ → List ℕ → Type 0
FetchesFirst cells first offset end areas =
    (0 < offset) ⊎ (end < 3168) → (i : ℕ) → i < 3168 → slice_index areas i ≡ cells (3168 * first + i)

-- where some bytes go to a part of the last of several pages alone, it is there; those before it stay
pub record FetchesLast (cells : ℕ → ℕ) (first count end : ℕ) (old new : List ℕ) : Type 0 where
  pub last : 1 < count → end < 3168 * count → (i : ℕ) → 3168 * (count - 1) ≤ i → i < 3168 * count
      → slice_index new i ≡ cells (3168 * first + i)
  pub before : (i : ℕ) → (i < 3168 * (count - 1)) ⊎ (count ≤ 1) → slice_index new i ≡ slice_index old i

-- some bytes stand among those of the cells of the pages that they go to
pub record IsComposed (cells : ℕ → ℕ) (first offset : ℕ) (from areas : List ℕ) : Type 0 where
  pub front : (i : ℕ) → i < offset → slice_index areas i ≡ cells (3168 * first + i)
  pub part : (i : ℕ) → i < length from → slice_index areas (offset + i) ≡ slice_index from i
  pub back : (i : ℕ) → offset + length from ≤ i → i < 3168 * ((offset + length from + 3167) / 3168)
      → slice_index areas i ≡ cells (3168 * first + i)

-- these are so many bytes of the cells from a place on
abbrev pub ReadsCells : (ℕ → ℕ) → ℕ → ℕ → List ℕ → Type 0
ReadsCells cells at count into = (i : ℕ) → i < count → slice_index into i ≡ cells (at + i)
