-- How the cells of an image lie in its bytes (docs/FORMAT.md, "Cells", "Pages" and "Twin pages").
use Rattle.std.specs.Prelude.{◌≡◌, ℕ, ◌+◌, ◌*◌, ◌/◌, ◌^◌, ◌<◌, ◌&&◌, ◌||◌, ◌==◌, Bool, true, false, List, length}
use Rattle.std.specs.Prelude.{nat_eq, nat_le}
use Rattle.std.specs.Prelude.{if◌then◌else◌}
use Rattle.std.specs.List.{list_all}
use Rattle.nofs_disk.specs.CellsOfBytes.{cell_in, part_of}
use Rattle.nofs_disk.specs.Number.{number_at, zeros}
use Rattle.nofs_disk.specs.declared.tag.Cell.{Cell}
use Rattle.nofs_pages.specs.Pages.{is_page, single_magic}
use Rattle.nofs_pages.specs.Singles.{byte_in}
use Rattle.nofs_pages.specs.Twins.{current_of, twin_byte, twin_magic}
use Rattle.nofs_pages.specs.Views.{all_bytes}
use Rattle.nofs_pages.specs.declared.place.Current.{Current}
use Rattle.nofs_pages.specs.declared.place.Current.TheVariants.{First, Second, Neither}
use Rattle.nofs_reader.specs.declared.layout.BadPage.{BadPage}
use Rattle.nofs_reader.specs.declared.layout.CellPlace.{CellPlace}
use Rattle.nofs_reader.specs.declared.layout.CellPlace.TheVariants as place
use Rattle.nofs_reader.specs.declared.layout.Layout.{Layout}
use Rattle.nofs_reader.specs.declared.layout.Layout.TheVariants.{Packed, Paged, Twin}
use Rattle.nofs_reader.specs.declared.layout.PageSort.{PageSort}
use Rattle.nofs_reader.specs.declared.layout.PageSort.TheVariants as sort
use Rattle.nofs_reader.specs.declared.layout.PairSort.{PairSort}
use Rattle.nofs_reader.specs.declared.layout.PairSort.TheVariants as pair

-- "NoFSv001"
abbrev pub packed_magic : ℕ
packed_magic = 0x3130307653466f4e

-- a word stands at a place, all eight bytes of it
unfoldable pub has_word : List ℕ → ℕ → ℕ → Bool
has_word bytes at word = nat_le (at + 8) (length bytes) && (number_at 8 at bytes == word)

-- the layout that the first bytes show: those of a file in pages are "NoFSpage", those of one in twin pages "NoFStwin",
-- or none of the three magics, and then its second place begins so
unfoldable pub layout_of : List ℕ → Layout
layout_of bytes =
    if has_word bytes 0 twin_magic then Twin
    else if has_word bytes 0 single_magic then Paged
    else if has_word bytes 0 packed_magic then Packed
    else if has_word bytes 4096 twin_magic then Twin
    else Packed

-- the bytes of the cells, one cell behind the other
abbrev pub bytes_by : Layout → List ℕ → List ℕ
bytes_by Packed bytes = bytes
bytes_by Paged bytes = all_bytes (byte_in bytes)
bytes_by Twin bytes = all_bytes (twin_byte bytes)

unfoldable pub cell_bytes : List ℕ → List ℕ
cell_bytes bytes = bytes_by (layout_of bytes) bytes

-- all bytes are zeros
abbrev pub is_blank : List ℕ → Bool
is_blank page = list_all (λ b. nat_eq b 0) page

-- these 4,096 bytes are the page with a number, zeros, or neither
abbrev pub sort_of : ℕ → List ℕ → PageSort
sort_of number page = if is_page number page then sort.Told else if is_blank page then sort.Blank else sort.Bad

-- where the cells of a page with two places are, by which place is current, and whether one is zeros
abbrev pub pair_by : Current → Bool → PairSort
pair_by First blank = pair.First
pair_by Second blank = pair.Second
pair_by Neither blank = if blank then pair.Blank else pair.Bad

abbrev pub pair_of : ℕ → List ℕ → List ℕ → PairSort
pair_of number one two = pair_by (current_of number one two) (is_blank one || is_blank two)

abbrev pub is_told_pair : PairSort → Bool
is_told_pair pair.First = true
is_told_pair pair.Second = true
is_told_pair pair.Blank = true
is_told_pair pair.Bad = false

abbrev pub is_told_sort : PageSort → Bool
is_told_sort sort.Told = true
is_told_sort sort.Blank = true
is_told_sort sort.Bad = false

-- whether a page can be told. Cells that lie one behind the other always can
abbrev pub is_told_by : Layout → List ℕ → ℕ → Bool
is_told_by Packed bytes number = true
is_told_by Paged bytes number = is_told_sort (sort_of number (part_of bytes (4096 * number) 4096))
is_told_by Twin bytes number =
    is_told_pair (pair_of number (part_of bytes (8192 * number) 4096) (part_of bytes (8192 * number + 4096) 4096))

unfoldable pub is_told : List ℕ → ℕ → Bool
is_told bytes number = is_told_by (layout_of bytes) bytes number

-- a page that can't
pub record IsBadPage (bytes : List ℕ) (page : BadPage) : Type 0 where
  pub range : page.number < 349526
  pub untold : is_told bytes page.number ≡ false

-- there is one
abbrev pub HasBadPage : List ℕ → Type 0
HasBadPage bytes = (page : BadPage) × IsBadPage bytes page

-- the cell that stands from a place on
abbrev pub cell_from : List ℕ → ℕ → Cell
cell_from bytes at = record { payload = part_of bytes at 1024; tag = part_of bytes (at + 1024) 32 }

abbrev pub blank_cell : Cell
blank_cell = record { payload = zeros 1024; tag = zeros 32 }

-- a block's cell, whose page is told, stands there
pub record IsToldCell (bytes : List ℕ) (block : ℕ) (it : Cell) : Type 0 where
  pub cell : cell_in (cell_bytes bytes) block ≡ it
  pub told : is_told bytes (block / 3) ≡ true

-- where a block's cell stands
abbrev pub IsPlaceOf : List ℕ → ℕ → CellPlace → Type 0
IsPlaceOf bytes block (place.At at) = (at < 2 ^ 62) × IsToldCell bytes block (cell_from bytes at)
IsPlaceOf bytes block place.Blank = IsToldCell bytes block blank_cell
IsPlaceOf bytes block (place.Bad bad) = (bad.number ≡ block / 3) × IsBadPage bytes bad
