-- A file with two places for each page (docs/FORMAT.md, "Twin pages").
use Rattle.std.specs.Prelude.{◌≡◌, ℕ, ◌+◌, ◌*◌, ◌/◌, ◌%◌, ◌^◌, ◌<◌, ◌≤◌, ◌⊎◌, ◌==◌, ◌&&◌, Bool, true, false, IsFalse}
use Rattle.std.specs.Prelude.{IsTrue, List}
use Rattle.std.specs.Prelude.{if◌then◌else◌, nat_lt, slice_index, slice_range}
use Rattle.std.specs.List.{list_all}
use Rattle.nofs_disk.specs.Number.{number_at, put_bytes, put_number, zeros}
use Rattle.nofs_disk.specs.CellsOfBytes.{part_of}
use Rattle.nofs_filedisk.specs.Bytes.{HostFileState}
use Rattle.nofs_pages.specs.Pages.{is_made, made}
use Rattle.nofs_pages.specs.Singles.{HasSamePart}
use Rattle.nofs_pages.specs.Views.{StoreState, page_bytes, shown}
use Rattle.nofs_pages.specs.declared.place.Current.{Current}
use Rattle.nofs_pages.specs.declared.place.Current.TheVariants.{First, Second, Neither}
use Rattle.nofs_pages.specs.declared.versions.Versions.{Versions}

-- "NoFStwin"
abbrev pub twin_magic : ℕ
twin_magic = 0x6e69777453466f4e

-- the version in a place
unfoldable pub version_in : List ℕ → ℕ
version_in page = number_at 8 896 page

-- these bytes are the page with this number, in the place 0 or 1
unfoldable pub is_twin : ℕ → ℕ → List ℕ → Bool
is_twin place number page = is_made twin_magic 896 number page && (version_in page % 2 == place)

-- by whether each place is told, and whether the second one has the higher version
abbrev pub current_by : Bool → Bool → Bool → Current
current_by true true later = if later then Second else First
current_by true false later = First
current_by false true later = Second
current_by false false later = Neither

-- which of two places is current: of those that are told the one with the higher version
unfoldable pub current_of : ℕ → List ℕ → List ℕ → Current
current_of number one two =
    current_by (is_twin 0 number one) (is_twin 1 number two) (nat_lt (version_in one) (version_in two))

abbrev pub area_by : Current → List ℕ → List ℕ → List ℕ
area_by First one two = slice_range one 928 4096
area_by Second one two = slice_range two 928 4096
area_by Neither one two = zeros 3168

-- the bytes of the cells of a page: zeros where neither place is told
unfoldable pub twin_area : ℕ → List ℕ → List ℕ → List ℕ
twin_area number one two = area_by (current_of number one two) one two

-- all are zeros
abbrev pub is_blank : List ℕ → Bool
is_blank page = list_all (λ byte. byte == 0) page

-- the version of a page of which neither place is told. The first place is an even page's own, the second one an odd
-- page's: if its own is blank, that stays, else it is written over first
abbrev pub version_of_none : ℕ → List ℕ → List ℕ → ℕ
version_of_none number one two =
    if number % 2 == 0 then (if is_blank one then 0 else 1) else (if is_blank two then 1 else 0)

abbrev pub version_by : ℕ → Current → List ℕ → List ℕ → ℕ
version_by number First one two = version_in one
version_by number Second one two = version_in two
version_by number Neither one two = version_of_none number one two

-- its version
unfoldable pub twin_version : ℕ → List ℕ → List ℕ → ℕ
twin_version number one two = version_by number (current_of number one two) one two

-- one of its places is told, or blank
abbrev pub IsTwinTold : ℕ → List ℕ → List ℕ → Type 0
IsTwinTold number one two =
    IsTrue (is_twin 0 number one) ⊎ (IsTrue (is_twin 1 number two) ⊎ (IsTrue (is_blank one) ⊎ IsTrue (is_blank two)))

-- what stands under the sum of a version with these cells
unfoldable pub twin_body : ℕ → List ℕ → List ℕ
twin_body version area = put_number 8 0 version (put_bytes 32 area (zeros 3200))

-- the place with a page's number, a version and these cells
unfoldable pub twin_sealed : ℕ → ℕ → List ℕ → List ℕ
twin_sealed number version area = made twin_magic 896 number (twin_body version area)

-- In a file

-- the version of a page
unfoldable pub version_of : List ℕ → ℕ → ℕ
version_of raw p = twin_version p (part_of raw (8192 * p) 4096) (part_of raw (8192 * p + 4096) 4096)

-- the byte of the cells at a place
unfoldable pub twin_byte : List ℕ → ℕ → ℕ
twin_byte raw k =
    let p = k / 3168 in
    slice_index (twin_area p (part_of raw (8192 * p) 4096) (part_of raw (8192 * p + 4096) 4096)) (k % 3168)

-- what contracts see of its pages
abbrev pub twin_state : HostFileState → ℕ → StoreState
twin_state file faults =
    record { tells = file.tells; bytes = shown file.tells (page_bytes (twin_byte file.bytes)); faults = faults }

-- what the file has of a page is durable
abbrev pub TwinRests : HostFileState → ℕ → Type 0
TwinRests file p = IsTrue file.tells → HasSamePart (8192 * p) 8192 file.durable file.bytes

-- where the file isn't going to be written anew, a page is told
abbrev pub TwinTold : HostFileState → Bool → ℕ → Type 0
TwinTold file fresh p = IsFalse fresh → IsTrue file.tells
    → IsTwinTold p (part_of file.bytes (8192 * p) 4096) (part_of file.bytes (8192 * p + 4096) 4096)

-- Several pages

-- these are both places of so many pages, the first of which has this number
abbrev pub HasReadPairs : List ℕ → ℕ → ℕ → List ℕ → Type 0
HasReadPairs raw first count pairs =
    (k : ℕ) → k < 8192 * count → slice_index pairs k ≡ slice_index raw (8192 * first + k)

-- from a place on stand the cells of the pages with numbers from this one on, and all else stays
pub record HasTwinAreas (raw : List ℕ) (first count to : ℕ) (old new : List ℕ) : Type 0 where
  pub inside : (j k : ℕ) → j < count → k < 3168 → slice_index new (to + (3168 * j + k))
      ≡ slice_index (twin_area (first + j) (part_of raw (8192 * j) 4096) (part_of raw (8192 * j + 4096) 4096)) k
  pub others : (i : ℕ) → (i < to) ⊎ (to + 3168 * count ≤ i) → slice_index new i ≡ slice_index old i

-- each of some pages is told
abbrev pub HasTwinsTold : List ℕ → ℕ → ℕ → Type 0
HasTwinsTold raw first count =
    (j : ℕ) → j < count → IsTwinTold (first + j) (part_of raw (8192 * j) 4096) (part_of raw (8192 * j + 4096) 4096)

-- Versions that are known

-- the next version of a page, 0 where it is not known
abbrev pub next_in : Versions → ℕ → ℕ
next_in versions p = slice_index versions.next.items p

-- the versions of some pages are learned, or forgotten, and others stay
abbrev pub LearnsVersions : List ℕ → ℕ → ℕ → Versions → Versions → Type 0
LearnsVersions raw first count old new =
    (p : ℕ) → (next_in new p ≡ next_in old p) ⊎ ((next_in new p ≡ 0)
    ⊎ ((j : ℕ) × (j < count) × (p ≡ first + j) × (next_in new p
    ≡ twin_version (first + j) (part_of raw (8192 * j) 4096) (part_of raw (8192 * j + 4096) 4096) + 1)))

-- where the file tells, a version that is known is the next one of its page
abbrev pub KnowsVersions : HostFileState → Versions → Type 0
KnowsVersions file versions =
    IsTrue file.tells → (p : ℕ) → 0 < next_in versions p → next_in versions p ≡ version_of file.bytes p + 1

-- the next versions of a page and of the one behind it are known, the first is odd, and the second even: then their
-- next places touch
pub record NextsTouch (versions : Versions) (p : ℕ) : Type 0 where
  pub odd : next_in versions p % 2 ≡ 1
  pub known : 0 < next_in versions (p + 1)
  pub even : next_in versions (p + 1) % 2 ≡ 0

-- Pages that are put

-- where the next version of a page goes: to the place that is not current
abbrev pub next_at : List ℕ → ℕ → ℕ
next_at raw p = 8192 * p + 4096 * ((version_of raw p + 1) % 2)

-- the next version of one of some pages, with its cells among theirs
abbrev pub next_of : List ℕ → ℕ → ℕ → List ℕ → List ℕ
next_of raw first j areas = twin_sealed (first + j) (version_of raw (first + j) + 1) (part_of areas (3168 * j) 3168)

-- of some pages each byte of the place that is not current stays, or is that of the next version, and all else stays
pub record WritesTwins (old new : List ℕ) (first count : ℕ) (areas : List ℕ) : Type 0 where
  pub same : (k : ℕ)
      → (k / 8192 < first) ⊎ ((first + count ≤ k / 8192) ⊎ (k % 8192 / 4096 ≡ version_of old (k / 8192) % 2))
      → slice_index new k ≡ slice_index old k
  pub each : (j k : ℕ) → j < count → k < 4096
      → (slice_index new (next_at old (first + j) + k) ≡ slice_index old (next_at old (first + j) + k))
      ⊎ (slice_index new (next_at old (first + j) + k) ≡ slice_index (next_of old first j areas) k)

-- the next version of each of some pages stands in the place that was not current
abbrev pub HasTwins : List ℕ → List ℕ → ℕ → ℕ → List ℕ → Type 0
HasTwins old new first count areas =
    (j : ℕ) → j < count → (version_of old (first + j) + 1 < 2 ^ 64)
    × (part_of new (next_at old (first + j)) 4096 ≡ next_of old first j areas)
