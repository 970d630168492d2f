-- The pages of a file are pages, and pages are a file.
use Rattle.std.specs.Prelude.{◌≡◌, ℕ, ◌+◌, ◌-◌, ◌*◌, ◌/◌, ◌%◌, ◌^◌, ◌<◌, ◌≤◌, ◌&&◌, Bool, true, false, List, [], nat_le}
use Rattle.std.specs.Prelude.{nat_lt}
use Rattle.std.specs.Prelude.{slice_index, slice_range, length, cond, drop}
use Rattle.std.proofs.Common.{arith, sym, ◌∙◌, inl, inr}
use Rattle.std.proofs.Math.ListN.{get_or-eq_default}
use Rattle.std.proofs.lemmas.Bool.{cases_lt}
use Rattle.std.proofs.lemmas.List.{ext_get_or}
use Rattle.std.proofs.lemmas.List.FromFn.{get_or-map-range_with_len, length-map-range_with_len}
use Rattle.nofs_disk.specs.Number.{drop-byte, take-byte, zeros, zeros-byte}
use Rattle.nofs_disk.specs.CellsOfBytes.{IsBytes-part_of, part_of}
use Rattle.nofs_filedisk.specs.Bytes.{HostFileState, IsHostFile}
use Rattle.nofs_pages.specs.Pages.{area_of, is_page}
use Rattle.nofs_pages.specs.Singles.{byte_in, single_state}
use Rattle.nofs_pages.specs.Stores.{IsStore}
use Rattle.nofs_pages.specs.Twins.{area_by, current_of, twin_area, twin_byte, twin_state}
use Rattle.nofs_pages.specs.declared.place.Current.{Current}
use Rattle.nofs_pages.specs.declared.place.Current.TheVariants.{First, Second, Neither}
use Rattle.nofs_pages.specs.Views.{StoreState, all_bytes, byte_over, bytes_by, page_bytes, paged_state, shown}
use Rattle.nofs_pages.specs.declared.row.Row.{Row}

-- All bytes

at-bytes_by : (f : ℕ → ℕ) (n k : ℕ) → k < n → slice_index (bytes_by f n) k ≡ f k
unfolding bytes_by
at-bytes_by f n k low = get_or-map-range_with_len f 0 n k k 0 low (omega arith)

length-bytes_by : (f : ℕ → ℕ) (n : ℕ) → length (bytes_by f n) ≡ n
unfolding bytes_by
length-bytes_by f n = length-map-range_with_len f 0 n

bytes_by-same : (f g : ℕ → ℕ) (n : ℕ) → ((k : ℕ) → k < n → f k ≡ g k) → bytes_by f n ≡ bytes_by g n
bytes_by-same f g n same =
    let one = length-bytes_by f n in
    let two = length-bytes_by g n in
    ext_get_or 0 (bytes_by f n) (bytes_by g n) (one ∙ sym two) (λ k low.
    let small : k < n = omega arith in
    at-bytes_by f n k small ∙ same k small ∙ sym (at-bytes_by g n k small))

pub at-all_bytes : (f : ℕ → ℕ) (k : ℕ) → k < 1107296256 → slice_index (all_bytes f) k ≡ f k
unfolding all_bytes
at-all_bytes f k low = at-bytes_by f 1107296256 k low

pub length-all_bytes : (f : ℕ → ℕ) → length (all_bytes f) ≡ 1107296256
unfolding all_bytes
length-all_bytes f = length-bytes_by f 1107296256

pub all_bytes-same : (f g : ℕ → ℕ) → ((k : ℕ) → k < 1107296256 → f k ≡ g k) → all_bytes f ≡ all_bytes g
unfolding all_bytes
all_bytes-same f g same = bytes_by-same f g 1107296256 same

pub past-all_bytes : (f : ℕ → ℕ) (k : ℕ) → 1107296256 ≤ k → slice_index (all_bytes f) k ≡ 0
past-all_bytes f k past =
    let len = length-all_bytes f in
    get_or-eq_default (all_bytes f) 0 {n = k} (omega arith)

pub at-page_bytes : (f : ℕ → ℕ) (k : ℕ) → k < 1107298368 → slice_index (page_bytes f) k ≡ f k
unfolding page_bytes
at-page_bytes f k low = at-bytes_by f 1107298368 k low

length-page_bytes : (f : ℕ → ℕ) → length (page_bytes f) ≡ 1107298368
unfolding page_bytes
length-page_bytes f = length-bytes_by f 1107298368

pub past-page_bytes : (f : ℕ → ℕ) (k : ℕ) → 1107298368 ≤ k → slice_index (page_bytes f) k ≡ 0
past-page_bytes f k past =
    let len = length-page_bytes f in
    get_or-eq_default (page_bytes f) 0 {n = k} (omega arith)

-- Bytes are below 256

below : {x y : ℕ} → x ≡ y → y < 256 → x < 256
below e low = omega arith

pub all_bytes-byte : (f : ℕ → ℕ) → ((k : ℕ) → f k < 256) → (k : ℕ) → slice_index (all_bytes f) k < 256
all_bytes-byte f small k = elim (cases_lt k 1107296256) [
  | inl low ↦ below (at-all_bytes f k low) (small k)
  | inr past ↦ below (past-all_bytes f k past) (omega arith)
]

page_bytes-byte : (f : ℕ → ℕ) → ((k : ℕ) → f k < 256) → (k : ℕ) → slice_index (page_bytes f) k < 256
page_bytes-byte f small k = elim (cases_lt k 1107298368) [
  | inl low ↦ below (at-page_bytes f k low) (small k)
  | inr past ↦ below (past-page_bytes f k past) (omega arith)
]

area_of-byte : (number : ℕ) (page : List ℕ) → ((k : ℕ) → slice_index page k < 256)
    → (k : ℕ) → slice_index (area_of number page) k < 256
unfolding area_of
area_of-byte number page small k = go (is_page number page)
  where
    go : (b : Bool) → slice_index (cond b (slice_range page 928 4096) (zeros 3168)) k < 256
    go true = take-byte (4096 - 928) (drop 928 page) (drop-byte 928 page small) k
    go false = zeros-byte 3168 k

pub byte_in-byte : (raw : List ℕ) → ((k : ℕ) → slice_index raw k < 256) → (k : ℕ) → byte_in raw k < 256
unfolding byte_in
byte_in-byte raw small k =
    area_of-byte (k / 3168) (part_of raw (4096 * (k / 3168)) 4096)
    (IsBytes-part_of raw (4096 * (k / 3168)) 4096 small).each (k % 3168)

shown-byte : (tells : Bool) (bytes : List ℕ) → ((k : ℕ) → slice_index bytes k < 256)
    → (k : ℕ) → slice_index (shown tells bytes) k < 256
shown-byte true bytes small k = small k
shown-byte false bytes small k = below (get_or-eq_default {A = ℕ} [] 0 {n = k} (omega arith)) (omega arith)

pub single_is : (file : HostFileState) → IsHostFile file → IsStore (single_state file)
single_is file is =
    record {
      small = shown-byte file.tells (page_bytes (byte_in file.bytes))
          (page_bytes-byte (byte_in file.bytes) (byte_in-byte file.bytes is.small));
    }

range-byte : (page : List ℕ) → ((k : ℕ) → slice_index page k < 256)
    → (k : ℕ) → slice_index (slice_range page 928 4096) k < 256
range-byte page small = take-byte (4096 - 928) (drop 928 page) (drop-byte 928 page small)

area_by-byte : (current : Current) (one two : List ℕ) → ((k : ℕ) → slice_index one k < 256)
    → ((k : ℕ) → slice_index two k < 256) → (k : ℕ) → slice_index (area_by current one two) k < 256
area_by-byte First one two small_one small_two k = range-byte one small_one k
area_by-byte Second one two small_one small_two k = range-byte two small_two k
area_by-byte Neither one two small_one small_two k = zeros-byte 3168 k

twin_area-byte : (number : ℕ) (one two : List ℕ) → ((k : ℕ) → slice_index one k < 256)
    → ((k : ℕ) → slice_index two k < 256) → (k : ℕ) → slice_index (twin_area number one two) k < 256
unfolding twin_area
twin_area-byte number one two small_one small_two =
    area_by-byte (current_of number one two) one two small_one small_two

pub twin_byte-byte : (raw : List ℕ) → ((k : ℕ) → slice_index raw k < 256) → (k : ℕ) → twin_byte raw k < 256
unfolding twin_byte
twin_byte-byte raw small k =
    let p = k / 3168 in
    twin_area-byte p (part_of raw (8192 * p) 4096) (part_of raw (8192 * p + 4096) 4096)
    (IsBytes-part_of raw (8192 * p) 4096 small).each (IsBytes-part_of raw (8192 * p + 4096) 4096 small).each (k % 3168)

pub twin_is : (file : HostFileState) (faults : ℕ) → IsHostFile file → IsStore (twin_state file faults)
twin_is file faults is =
    record {
      small = shown-byte file.tells (page_bytes (twin_byte file.bytes))
          (page_bytes-byte (twin_byte file.bytes) (twin_byte-byte file.bytes is.small));
    }

-- Pages are a file

byte_over-byte : (cells : List ℕ) (row : Row) → ((k : ℕ) → slice_index cells k < 256)
    → ((k : ℕ) → slice_index row.bytes.items k < 256) → (k : ℕ) → byte_over cells row k < 256
unfolding byte_over
byte_over-byte cells row small row_small k =
    go (nat_le (3168 * row.first) k && nat_lt k (3168 * row.first + 3168 * row.count))
  where
    go : (b : Bool) → cond b (slice_index row.bytes.items (k - 3168 * row.first)) (slice_index cells k) < 256
    go true = row_small (k - 3168 * row.first)
    go false = small k

pub paged_is : (store synced : StoreState) (row : Row) (faults : ℕ) → ((k : ℕ) → slice_index store.bytes k < 256)
    → faults < 2 ^ 64 → ((k : ℕ) → slice_index row.bytes.items k < 256)
    → IsHostFile (paged_state store synced row faults)
paged_is store synced row faults stored counted small = record {
  counted = counted;
  small = shown-byte store.tells (all_bytes (byte_over store.bytes row))
      (all_bytes-byte (byte_over store.bytes row) (byte_over-byte store.bytes row stored small));
}
