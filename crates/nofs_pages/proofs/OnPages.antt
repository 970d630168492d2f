-- A page that was made is the page with its number and its cells.
use Rattle.std.proofs.Common.{◌≡◌, ℕ, ◌+◌, ◌-◌, ◌*◌, ◌/◌, ◌%◌, ◌^◌, ◌<◌, ◌≤◌, ◌⊎◌, Bool, true, List, ◌++◌, length}
use Rattle.std.proofs.Common.{take, drop, arith, refl, sym, ap, ◌∙◌, inl, inr}
use Rattle.std.specs.Prelude.{bit_xor, slice_index, slice_range}
use Rattle.std.proofs.lemmas.Bool.{and_from, cond-true, eq-eqb}
use Rattle.std.proofs.lemmas.List.{drop_at, get_or-take, length-take-le, take_at}
use Rattle.std.proofs.lemmas.List.FromFn.{get_or-map-range_with_len, length-map-range_with_len}
use Rattle.std.proofs.lemmas.Nat.{xor_lt}
use Rattle.nofs_disk.specs.Number.{length-put_number, length-zeros, number_at, number_at-put_after, number_at-put_same}
use Rattle.nofs_disk.specs.Number.{put_bytes, put_number, zeros}
use Rattle.nofs_disk.specs.Parts.{length-put_bytes, range-put_behind}
use Rattle.nofs_disk.specs.CellsOfBytes.{part_of}
use Rattle.nofs_filedisk.specs.Bytes.{IsPut}
use Rattle.nofs_filedisk.proofs.OnMoving.Units.{part-same}
use Rattle.nofs_pages.specs.Sums.{end_of, lanes_after, mixed, sum_in}
use Rattle.nofs_pages.specs.Pages.{HasPages, area_of, is_made, made, sealed, single_magic}
use Rattle.nofs_pages.specs.Singles.{byte_in}

-- The sum is a number of 64 bits

last : (x : ℕ) → x < 2 ^ 64 → bit_xor x (x / 2 ^ 32) < 2 ^ 64
last x low = xor_lt 64 x (x / 2 ^ 32) low (omega arith)

rest : (x : ℕ) → x % 2 ^ 64 < 2 ^ 64
rest x = omega arith

mixed-lt : (x : ℕ) → mixed x < 2 ^ 64
unfolding mixed
mixed-lt x = last _ (rest _)

end_of-lt : (seed : ℕ) (bytes : List ℕ) (n count : ℕ) → end_of (lanes_after seed bytes n) count < 2 ^ 64
unfolding end_of
end_of-lt seed bytes n count = mixed-lt _

pub sum_in-lt : (seed : ℕ) (bytes : List ℕ) → sum_in seed bytes < 2 ^ 64
unfolding sum_in
sum_in-lt seed bytes = end_of-lt seed bytes (length bytes / 32) (length bytes)

-- A page that was made

module _ (magic at number sum : ℕ) (body : List ℕ) (low_magic : magic < 2 ^ 64) (low : number < 2 ^ 64)
    (small : sum < 2 ^ 64) (behind : 24 ≤ at) (size : at + length body ≡ 4096) where
  base : List ℕ
  base = put_bytes at body (zeros 4096)

  length-base : length base ≡ 4096
  unfolding base
  length-base =
      let whole = length-zeros 4096 in
      length-put_bytes at body (zeros 4096) (omega arith) ∙ whole

  one : List ℕ
  one = put_number 8 0 magic base

  two : List ℕ
  two = put_number 8 8 number one

  three : List ℕ
  three = put_number 8 16 sum two

  length-one : length one ≡ 4096
  unfolding one
  length-one =
      let len = length-base in
      length-put_number 8 0 magic base (omega arith) ∙ len

  length-two : length two ≡ 4096
  unfolding two
  length-two =
      let len = length-one in
      length-put_number 8 8 number one (omega arith) ∙ len

  length-three : length three ≡ 4096
  unfolding three
  length-three =
      let len = length-two in
      length-put_number 8 16 sum two (omega arith) ∙ len

  has_sum : number_at 8 16 three ≡ sum
  unfolding three
  has_sum =
      let len = length-two in
      number_at-put_same 8 16 sum two small (omega arith)

  has_number : number_at 8 8 three ≡ number
  unfolding three two
  has_number =
      let len = length-one in
      let len_two = length-two in
      number_at-put_after 8 16 8 8 sum (put_number 8 8 number one) (omega arith) (omega arith)
      ∙ number_at-put_same 8 8 number one low (omega arith)

  has_magic : number_at 8 0 three ≡ magic
  unfolding three two one
  has_magic =
      let len = length-base in
      let len_one = length-one in
      let len_two = length-two in
      number_at-put_after 8 16 8 0 sum (put_number 8 8 number (put_number 8 0 magic base))
      (omega arith) (omega arith)
      ∙ number_at-put_after 8 8 8 0 number (put_number 8 0 magic base) (omega arith) (omega arith)
      ∙ number_at-put_same 8 0 magic base low_magic (omega arith)

  base-body : slice_range base at 4096 ≡ body
  unfolding base put_bytes
  base-body =
      let whole = length-zeros 4096 in
      let rest = body ++ drop (at + length body) (zeros 4096) in
      let cut : 4096 - at ≡ length body = omega arith in
      ap (take (4096 - at)) (drop_at (take at (zeros 4096)) rest at (length-take-le at (zeros 4096) (omega arith)))
      ∙ ap (λ n. take n rest) cut
      ∙ take_at body (drop (at + length body) (zeros 4096)) (length body) refl

  has_body : slice_range three at 4096 ≡ body
  unfolding three two one
  has_body =
      let len = length-base in
      let len_one = length-one in
      let len_two = length-two in
      range-put_behind 8 16 sum at 4096 (put_number 8 8 number (put_number 8 0 magic base))
      (omega arith) (omega arith)
      ∙ range-put_behind 8 8 number at 4096 (put_number 8 0 magic base) (omega arith) (omega arith)
      ∙ range-put_behind 8 0 magic at 4096 base (omega arith) (omega arith)
      ∙ base-body

module _ (magic at number : ℕ) (body : List ℕ) (low_magic : magic < 2 ^ 64) (low : number < 2 ^ 64)
    (behind : 24 ≤ at) (size : at + length body ≡ 4096) where
  pub length-made : length (made magic at number body) ≡ 4096
  unfolding made base one two three
  length-made = length-three magic at number (sum_in number body) body low_magic low (sum_in-lt number body) behind size

  pub made-body : slice_range (made magic at number body) at 4096 ≡ body
  unfolding made base one two three
  made-body = has_body magic at number (sum_in number body) body low_magic low (sum_in-lt number body) behind size

  pub made-is : is_made magic at number (made magic at number body) ≡ true
  unfolding is_made made base one two three
  made-is =
      let sum = sum_in number body in
      let lt = sum_in-lt number body in
      let same = ap (sum_in number) (has_body magic at number sum body low_magic low lt behind size) in
      and_from _ _ (eq-eqb _ _ (has_magic magic at number sum body low_magic low lt behind size))
      (and_from _ _ (eq-eqb _ _ (has_number magic at number sum body low_magic low lt behind size))
      (eq-eqb _ _ (has_sum magic at number sum body low_magic low lt behind size ∙ sym same)))

-- What was made of cells

pub length-sealed : (number : ℕ) (area : List ℕ)
    → number < 2 ^ 64 → length area ≡ 3168 → length (sealed number area) ≡ 4096
length-sealed number area low size =
    length-made single_magic 928 number area (omega arith) low (omega arith) (omega arith)

pub area_of-sealed : (number : ℕ) (area : List ℕ) → number < 2 ^ 64 → length area ≡ 3168
    → area_of number (sealed number area) ≡ area
unfolding area_of
area_of-sealed number area low size =
    cond-true _ _ _ (made-is single_magic 928 number area (omega arith) low (omega arith) (omega arith))
    ∙ made-body single_magic 928 number area (omega arith) low (omega arith) (omega arith)

-- The bytes of cells in a file

-- a byte of a part
pub at-part_of : (bytes : List ℕ) (at n k : ℕ) → k < n → slice_index (part_of bytes at n) k ≡ slice_index bytes (at + k)
unfolding part_of
at-part_of bytes at n k low = get_or-map-range_with_len (slice_index bytes) at n k (at + k) 0 low refl

pub length-part_of : (bytes : List ℕ) (at n : ℕ) → length (part_of bytes at n) ≡ n
unfolding part_of
length-part_of bytes at n = length-map-range_with_len (slice_index bytes) at n

-- by the page that it is in
pub byte_in-page : (raw page : List ℕ) (k : ℕ) → part_of raw (4096 * (k / 3168)) 4096 ≡ page
    → byte_in raw k ≡ slice_index (area_of (k / 3168) page) (k % 3168)
unfolding byte_in
byte_in-page raw page k is = ap (λ l. slice_index (area_of (k / 3168) l) (k % 3168)) is

pub byte_in-same : (raw other : List ℕ) (k : ℕ)
    → ((i : ℕ) → i < 4096 → slice_index raw (4096 * (k / 3168) + i) ≡ slice_index other (4096 * (k / 3168) + i))
    → byte_in raw k ≡ byte_in other k
byte_in-same raw other k same =
    let at = 4096 * (k / 3168) in
    byte_in-page raw (part_of other at 4096) k (part-same raw other at at 4096 same)
    ∙ sym (byte_in-page other (part_of other at 4096) k refl)

pub byte_in-sealed : (raw area : List ℕ) (k : ℕ) → k / 3168 < 2 ^ 64 → length area ≡ 3168
    → part_of raw (4096 * (k / 3168)) 4096 ≡ sealed (k / 3168) area → byte_in raw k ≡ slice_index area (k % 3168)
byte_in-sealed raw area k low size is =
    byte_in-page raw (sealed (k / 3168) area) k is
    ∙ ap (λ l. slice_index l (k % 3168)) (area_of-sealed (k / 3168) area low size)

-- pages that were written show their cells
pub row-put : (raw new areas pages : List ℕ) (first count k : ℕ) → HasPages areas first count pages
    → 4096 * count ≤ length pages → first + count ≤ 349526
    → IsPut (4096 * first) (take (4096 * count) pages) raw new
    → 3168 * first ≤ k → k < 3168 * first + 3168 * count
    → byte_in new k ≡ slice_index areas (k - 3168 * first)
row-put raw new areas pages first count k has fits most put low high =
    let p = k / 3168 in
    let j = p - first in
    let size = length-take-le (4096 * count) pages fits in
    let number : first + j ≡ p = omega arith in
    let inside : j < count = omega arith in
    let area = part_of areas (3168 * j) 3168 in
    let page : part_of new (4096 * p) 4096 ≡ part_of pages (4096 * j) 4096 =
    part-same new pages (4096 * p) (4096 * j) 4096 (λ i small.
    let place : 4096 * p + i ≡ 4096 * first + (4096 * j + i) = omega arith in
    ap (slice_index new) place ∙ put.inside (4096 * j + i) (omega arith)
    ∙ get_or-take (4096 * count) pages (4096 * j + i) 0 (omega arith)) in
    let is = page ∙ has j inside ∙ ap (λ n. sealed n area) number in
    let index : 3168 * j + k % 3168 ≡ k - 3168 * first = omega arith in
    byte_in-sealed new area k (omega arith) (length-part_of areas (3168 * j) 3168) is
    ∙ at-part_of areas (3168 * j) 3168 (k % 3168) (omega arith) ∙ ap (slice_index areas) index

-- and others stay
pub row-other : (raw new part : List ℕ) (first count k : ℕ) → length part ≤ 4096 * count
    → IsPut (4096 * first) part raw new → (k < 3168 * first) ⊎ (3168 * first + 3168 * count ≤ k)
    → byte_in new k ≡ byte_in raw k
row-other raw new part first count k short put (inl low) =
    byte_in-same new raw k (λ i small. put.before (4096 * (k / 3168) + i) (omega arith))
row-other raw new part first count k short put (inr high) =
    byte_in-same new raw k (λ i small. put.behind (4096 * (k / 3168) + i) (omega arith))
