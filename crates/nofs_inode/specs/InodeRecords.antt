-- Records of the inode table, and the 256 bytes that spell one.
use Rattle.std.specs.Prelude.{◌≡◌, ℕ, ◌+◌, ◌*◌, ◌≤◌, Bool, ◌&&◌, ◌||◌, not, List, [], ◌∷◌, All, count_by, Option, Some}
use Rattle.std.specs.Prelude.{None, if◌then◌else◌, is_some, nat_le}
use Rattle.std.specs.Prelude.{◌==◌}
use Rattle.std.specs.List.{list_all}
use Rattle.nofs_disk.specs.Number.{number_at}
use Rattle.nofs_disk.specs.declared.tag.Pointer.{Pointer}
use Rattle.nofs_disk.specs.Pointer.{null, is_null, pointer_in}
use Rattle.nofs_inode.specs.declared.inode.FileKind.{FileKind}
use Rattle.nofs_inode.specs.declared.inode.FileKind.TheVariants.{File, Directory}
use Rattle.nofs_inode.specs.declared.inode.BackLink.{BackLink}
use Rattle.nofs_inode.specs.declared.inode.Record.{Record}

-- Back links

-- what an empty place has
abbrev pub no_link : BackLink
no_link = record { directory = 0; entry = 0; generation = 0 }

-- a place without a directory
abbrev pub is_empty_link : BackLink → Bool
is_empty_link l = l.directory == 0

-- whether each number is zero
abbrev pub is_no_link : BackLink → Bool
is_no_link l = (l.directory == 0) && (l.entry == 0) && (l.generation == 0)

-- how many places have a back link
abbrev pub link_count : List BackLink → ℕ
link_count links = count_by (λ l. not (is_empty_link l)) links

-- an empty place is all zero
abbrev pub IsTidyLink : BackLink → Type 0
IsTidyLink l = l.directory ≡ 0 → (l.entry ≡ 0) × (l.generation ≡ 0)

-- whether an empty place is all zero
abbrev pub is_tidy_link : BackLink → Bool
is_tidy_link l = not (is_empty_link l) || (l.entry == 0) && (l.generation == 0)

-- Which records have a spelling

-- the most bytes that a file has
abbrev pub largest_size : ℕ
largest_size = 4268032

-- a record that isn't in use
abbrev pub free_record : Record
free_record = record {
  generation = 0;
  kind = None;
  links = no_link ∷ no_link ∷ no_link ∷ no_link ∷ [];
  size = 0;
  direct = null ∷ null ∷ null ∷ null ∷ null ∷ null ∷ null ∷ null ∷ [];
  leaf = null;
  top = null;
}

-- a record in use
abbrev pub is_live : Record → Bool
is_live r = is_some r.kind

-- a file has a largest size; a directory has size 0, one name at most, and no top
abbrev pub AllowsKind : FileKind → Record → Type 0
AllowsKind File r = r.size ≤ largest_size
AllowsKind Directory r = (r.size ≡ 0) × (link_count r.links ≤ 1) × (r.top ≡ null)

-- a record in use has a generation, and zeros in each empty place
pub record IsLiveSpelling (kind : FileKind) (r : Record) : Type 0 where
  pub generation : 1 ≤ r.generation
  pub tidy : All IsTidyLink r.links
  pub allowed : AllowsKind kind r

-- what a record of this kind has: zeros alone where it is free
abbrev pub AllowsRecord : Option FileKind → Record → Type 0
AllowsRecord None r = r ≡ free_record
AllowsRecord (Some kind) r = IsLiveSpelling kind r

-- some 256 bytes spell this record
abbrev pub HasRecordSpelling : Record → Type 0
HasRecordSpelling r = AllowsRecord r.kind r

-- whether a record has what its kind asks
abbrev pub allows_kind : FileKind → Record → Bool
allows_kind File r = nat_le r.size largest_size
allows_kind Directory r = (r.size == 0) && nat_le (link_count r.links) 1 && is_null r.top

-- each field is zero
abbrev pub is_free : Record → Bool
is_free r =
    (r.generation == 0) && (r.size == 0) && list_all is_no_link r.links
    && list_all is_null r.direct && is_null r.leaf && is_null r.top

-- whether a record has a spelling
abbrev pub allows_record : Option FileKind → Record → Bool
allows_record None r = is_free r
allows_record (Some kind) r = nat_le 1 r.generation && list_all is_tidy_link r.links && allows_kind kind r

-- Their bytes

-- the number of a kind: 0 is free
abbrev pub file_kind_number : Option FileKind → ℕ
file_kind_number None = 0
file_kind_number (Some File) = 1
file_kind_number (Some Directory) = 2

-- the kind with this number
abbrev pub file_kind_of : ℕ → Option FileKind
file_kind_of n = if n == 1 then Some File else if n == 2 then Some Directory else None

-- the back link in the sixteen bytes at a place
unfoldable pub link_in : ℕ → List ℕ → BackLink
link_in at bytes = record {
  directory = number_at 4 at bytes;
  entry = number_at 4 (at + 4) bytes;
  generation = number_at 8 (at + 8) bytes;
}

-- four back links, one behind another
abbrev pub links_in : ℕ → List ℕ → List BackLink
links_in at bytes = link_in at bytes ∷ link_in (at + 16) bytes ∷ link_in (at + 32) bytes ∷ link_in (at + 48) bytes ∷ []

-- eight pointers, one behind another
abbrev pub direct_in : ℕ → List ℕ → List Pointer
direct_in at bytes =
    pointer_in at bytes ∷ pointer_in (at + 16) bytes ∷ pointer_in (at + 32) bytes ∷ pointer_in (at + 48) bytes
    ∷ pointer_in (at + 64) bytes ∷ pointer_in (at + 80) bytes ∷ pointer_in (at + 96) bytes
    ∷ pointer_in (at + 112) bytes ∷ []

-- the record with the fields in the 256 bytes at a place
unfoldable pub fields_in : ℕ → List ℕ → Record
fields_in at bytes = record {
  generation = number_at 8 at bytes;
  kind = file_kind_of (number_at 4 (at + 8) bytes);
  links = links_in (at + 32) bytes;
  size = number_at 8 (at + 16) bytes;
  direct = direct_in (at + 96) bytes;
  leaf = pointer_in (at + 224) bytes;
  top = pointer_in (at + 240) bytes;
}

-- the fields that follow from the others: the number of the kind, the number of back links, and the zero
abbrev pub has_rest : ℕ → List ℕ → Record → Bool
has_rest at bytes r =
    (number_at 4 (at + 8) bytes == file_kind_number r.kind) && (number_at 4 (at + 12) bytes == link_count r.links)
    && (number_at 8 (at + 24) bytes == 0)

-- a record that the other fields agree with, and that has a spelling
abbrev pub record_with : ℕ → List ℕ → Record → Option Record
record_with at bytes r = if has_rest at bytes r && allows_record r.kind r then Some r else None

-- the record that the 256 bytes with this index spell
unfoldable pub record_of : ℕ → List ℕ → Option Record
record_of index payload = record_with (256 * index) payload (fields_in (256 * index) payload)

-- bytes that are no spelling are read as a free record
abbrev pub record_or_free : Option Record → Record
record_or_free None = free_record
record_or_free (Some r) = r

-- record j of a table cell
unfoldable pub record_at : List ℕ → ℕ → Record
record_at payload j = record_or_free (record_of j payload)

-- the numbers at the head of 256 bytes are those of this record
pub record HasNumbers (at : ℕ) (bytes : List ℕ) (r : Record) : Type 0 where
  pub generation : number_at 8 at bytes ≡ r.generation
  pub kind : number_at 4 (at + 8) bytes ≡ file_kind_number r.kind
  pub count : number_at 4 (at + 12) bytes ≡ link_count r.links
  pub size : number_at 8 (at + 16) bytes ≡ r.size
  pub zero : number_at 8 (at + 24) bytes ≡ 0

-- the 256 bytes at a place spell this record
pub record SpellsRecord (at : ℕ) (bytes : List ℕ) (r : Record) : Type 0 where
  pub numbers : HasNumbers at bytes r
  pub links : links_in (at + 32) bytes ≡ r.links
  pub direct : direct_in (at + 96) bytes ≡ r.direct
  pub leaf : pointer_in (at + 224) bytes ≡ r.leaf
  pub top : pointer_in (at + 240) bytes ≡ r.top
  pub allowed : HasRecordSpelling r
