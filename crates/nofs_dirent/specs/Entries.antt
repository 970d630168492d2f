-- Entries of a directory, and the 64 bytes that spell one.
use Rattle.std.specs.Prelude.{◌≡◌, ℕ, ◌+◌, ◌*◌, ◌<◌, ◌≤◌, Bool, true, false, ◌&&◌, List, length, take, drop, Option}
use Rattle.std.specs.Prelude.{Some, None, if◌then◌else◌, nat_le, ◌==◌}
use Rattle.std.specs.Prelude.{bytes_eq}
use Rattle.std.specs.List.{list_all}
use Rattle.nofs_disk.specs.Number.{number_at, put_bytes, put_number, zeros}
use Rattle.nofs_dirent.specs.Names.{NameOk, is_name, longest_name}
use Rattle.nofs_dirent.specs.declared.entry.Entry.{Entry}

-- how many entries a directory has at most: 16 in each of its slots 0 to 71
abbrev pub entry_limit : ℕ
entry_limit = 1152

-- some 64 bytes spell this entry
pub record HasEntrySpelling (e : Entry) : Type 0 where
  pub inode : 1 ≤ e.inode
  pub generation : 1 ≤ e.generation
  pub name : NameOk e.name

-- an entry from its parts
abbrev pub entry_with : ℕ → ℕ → List ℕ → Entry
entry_with inode generation name = record { inode = inode; generation = generation; name = name }

-- whether some 64 bytes spell this entry
abbrev pub has_entry_spelling : Entry → Bool
has_entry_spelling e = nat_le 1 e.inode && (nat_le 1 e.generation && is_name e.name)

-- the entry with the fields in 64 bytes
unfoldable pub entry_fields : List ℕ → Entry
entry_fields bytes = entry_with (number_at 4 0 bytes) (number_at 8 8 bytes) (take (number_at 4 4 bytes) (drop 16 bytes))

-- zeros follow a name of this length
abbrev pub has_zeros_after : List ℕ → ℕ → Bool
has_zeros_after bytes n = nat_le n longest_name && list_all (λ b. b == 0) (drop (16 + n) bytes)

-- the entry that 64 bytes spell
unfoldable pub entry_of : List ℕ → Option Entry
entry_of bytes =
    if has_zeros_after bytes (number_at 4 4 bytes) && has_entry_spelling (entry_fields bytes)
    then Some (entry_fields bytes) else None

-- the 64 bytes at place j of a directory cell
abbrev pub entry_bytes : List ℕ → ℕ → List ℕ
entry_bytes payload j = take 64 (drop (64 * j) payload)

-- the entry at place j of a directory cell
abbrev pub entry_in : List ℕ → ℕ → Option Entry
entry_in payload j = entry_of (entry_bytes payload j)

-- the 64 bytes that spell the entry of this inode, generation and name
unfoldable pub spelled_entry : ℕ → ℕ → List ℕ → List ℕ
spelled_entry inode generation name =
    put_number 4 0 inode (put_number 4 4 (length name) (put_number 8 8 generation (put_bytes 16 name (zeros 64))))

-- the name of an entry
abbrev pub name_of : Option Entry → Option (List ℕ)
name_of None = None
name_of (Some e) = Some e.name

-- whether the name of an entry is this one
abbrev pub is_named : List ℕ → Option (List ℕ) → Bool
is_named name None = false
is_named name (Some found) = bytes_eq found name

-- the size and the bytes of this name stand in 64 bytes
abbrev pub carries_name : List ℕ → List ℕ → Bool
carries_name bytes name = nat_le (length name) longest_name
    && ((number_at 4 4 bytes == length name) && bytes_eq (take (length name) (drop 16 bytes)) name)

-- the entry at this place of a directory cell has this name
unfoldable pub has_name : List ℕ → List ℕ → ℕ → Bool
has_name payload name j = is_named name (name_of (entry_in payload j))

-- the first place at or after this one whose entry has this name
pub record IsFirstNamed (payload name : List ℕ) (from j : ℕ) : Type 0 where
  pub late : from ≤ j
  pub place : j < 16
  pub named : has_name payload name j ≡ true
  pub first : (k : ℕ) → from ≤ k → k < j → has_name payload name k ≡ false
