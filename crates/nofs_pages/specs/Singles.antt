-- A file with one place for each page.
use Rattle.std.specs.Prelude.{◌≡◌, ℕ, ◌+◌, ◌*◌, ◌/◌, ◌%◌, ◌<◌, ◌≤◌, ◌⊎◌, IsFalse, IsTrue, Bool, List, slice_index}
use Rattle.nofs_disk.specs.CellsOfBytes.{part_of}
use Rattle.nofs_filedisk.specs.Bytes.{HostFileState}
use Rattle.nofs_pages.specs.Pages.{IsTold, area_of, sealed}
use Rattle.nofs_pages.specs.Views.{StoreState, page_bytes, shown}

-- the byte of the cells at a place, in a file of pages
unfoldable pub byte_in : List ℕ → ℕ → ℕ
byte_in raw k = slice_index (area_of (k / 3168) (part_of raw (4096 * (k / 3168)) 4096)) (k % 3168)

-- two files have the same bytes in so many from a place on
abbrev pub HasSamePart : ℕ → ℕ → List ℕ → List ℕ → Type 0
HasSamePart at n one other = (k : ℕ) → k < n → slice_index one (at + k) ≡ slice_index other (at + k)

-- what contracts see of the pages of a file
abbrev pub single_state : HostFileState → StoreState
single_state file =
    record { tells = file.tells; bytes = shown file.tells (page_bytes (byte_in file.bytes)); faults = file.faults }

-- what the file has of a page is durable
abbrev pub SingleRests : HostFileState → ℕ → Type 0
SingleRests file p = IsTrue file.tells → HasSamePart (4096 * p) 4096 file.durable file.bytes

-- where the file isn't going to be written anew, a page is one with its number and its sum, or blank
abbrev pub SingleTold : HostFileState → Bool → ℕ → Type 0
SingleTold file fresh p = IsFalse fresh → IsTrue file.tells → IsTold p (part_of file.bytes (4096 * p) 4096)

-- these are the bytes of so many pages, the first of which has this number
abbrev pub HasRead : List ℕ → ℕ → ℕ → List ℕ → Type 0
HasRead raw first count pages = (k : ℕ) → k < 4096 * count → slice_index pages k ≡ slice_index raw (4096 * first + k)

-- each byte of some pages is what it was, or one of the page with that number and these cells; all others stay
pub record WritesPages (old new : List ℕ) (first count : ℕ) (areas : List ℕ) : Type 0 where
  pub inside : (j : ℕ) → j < count → (i : ℕ) → i < 4096
      → (slice_index new (4096 * (first + j) + i) ≡ slice_index old (4096 * (first + j) + i))
      ⊎ (slice_index new (4096 * (first + j) + i)
      ≡ slice_index (sealed (first + j) (part_of areas (3168 * j) 3168)) i)
  pub others : (k : ℕ) → (k < 4096 * first) ⊎ (4096 * (first + count) ≤ k) → slice_index new k ≡ slice_index old k
