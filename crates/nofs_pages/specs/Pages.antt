-- What a page means (docs/FORMAT.md, "Pages").
use Rattle.std.specs.Prelude.{◌≡◌, ℕ, ◌+◌, ◌*◌, ◌/◌, ◌%◌, ◌<◌, ◌≤◌, ◌⊎◌, ◌==◌, ◌&&◌, Bool, EachIndex, IsTrue, List}
use Rattle.std.specs.Prelude.{if◌then◌else◌, slice_index, slice_range}
use Rattle.nofs_disk.specs.Number.{number_at, put_bytes, put_number, zeros}
use Rattle.nofs_disk.specs.CellsOfBytes.{part_of}
use Rattle.nofs_pages.specs.Sums.{sum_in}

-- these 4,096 bytes begin with a magic and a number, and their sum is that of what stands from a place on
unfoldable pub is_made : ℕ → ℕ → ℕ → List ℕ → Bool
is_made magic at number page =
    (number_at 8 0 page == magic)
    && ((number_at 8 8 page == number) && (number_at 8 16 page == sum_in number (slice_range page at 4096)))

-- the page with a magic and a number, and with these bytes from a place on
unfoldable pub made : ℕ → ℕ → ℕ → List ℕ → List ℕ
made magic at number body =
    put_number 8 16 (sum_in number body) (put_number 8 8 number (put_number 8 0 magic (put_bytes at body (zeros 4096))))

-- these bytes, with a magic, a number and the sum of what stands from a place on put at their beginning
unfoldable pub signed : ℕ → ℕ → ℕ → List ℕ → List ℕ
signed magic at number page =
    put_number 8 16 (sum_in number (slice_range page at 4096)) (put_number 8 8 number (put_number 8 0 magic page))

-- "NoFSpage"
abbrev pub single_magic : ℕ
single_magic = 0x6567617053466f4e

-- these bytes are the page with this number
abbrev pub is_page : ℕ → List ℕ → Bool
is_page number page = is_made single_magic 928 number page

-- the page with this number and these cells
abbrev pub sealed : ℕ → List ℕ → List ℕ
sealed number area = made single_magic 928 number area

-- the bytes of its three cells: zeros where they are not the page
unfoldable pub area_of : ℕ → List ℕ → List ℕ
area_of number page = if is_page number page then slice_range page 928 4096 else zeros 3168

-- all are zeros
abbrev pub IsBlank : List ℕ → Type 0
IsBlank page = EachIndex page (λ k. slice_index page k ≡ 0)

-- they are the page, or all zeros
abbrev pub IsTold : ℕ → List ℕ → Type 0
IsTold number page = IsTrue (is_page number page) ⊎ IsBlank page

-- from a place on stand the cells of the pages with numbers from this one on, and all else stays
pub record HasAreas (raw : List ℕ) (first count to : ℕ) (old new : List ℕ) : Type 0 where
  pub inside : (i : ℕ) → i < 3168 * count → slice_index new (to + i)
      ≡ slice_index (area_of (first + i / 3168) (part_of raw (4096 * (i / 3168)) 4096)) (i % 3168)
  pub others : (i : ℕ) → (i < to) ⊎ (to + 3168 * count ≤ i) → slice_index new i ≡ slice_index old i

-- each of some pages is told
abbrev pub HasTold : List ℕ → ℕ → ℕ → Type 0
HasTold raw first count = (j : ℕ) → j < count → IsTold (first + j) (part_of raw (4096 * j) 4096)

-- these are the pages with numbers from this one on and these cells
abbrev pub HasPages : List ℕ → ℕ → ℕ → List ℕ → Type 0
HasPages areas first count raw =
    (j : ℕ) → j < count → part_of raw (4096 * j) 4096 ≡ sealed (first + j) (part_of areas (3168 * j) 3168)
