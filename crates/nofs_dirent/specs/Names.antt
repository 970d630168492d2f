-- Which names an entry can have.
use Rattle.std.specs.Prelude.{◌≢◌, ℕ, ◌≤◌, Bool, ◌&&◌, ◌||◌, not, List, [], ◌∷◌, length, All, nat_le, ◌==◌, bytes_eq}
use Rattle.std.specs.List.{list_all}

-- the most bytes of a name
abbrev pub longest_name : ℕ
longest_name = 48

-- neither zero, nor the end of a line, nor a space, nor a slash
abbrev pub IsNameByte : ℕ → Type 0
IsNameByte b = (b ≢ 0) × (b ≢ 10) × (b ≢ 13) × (b ≢ 32) × (b ≢ 47)

-- a name of 1 to 48 bytes that is neither `.` nor `..`
pub record NameOk (name : List ℕ) : Type 0 where
  pub some : 1 ≤ length name
  pub short : length name ≤ longest_name
  pub bytes : All IsNameByte name
  pub not_dot : name ≢ 46 ∷ []
  pub not_dots : name ≢ 46 ∷ 46 ∷ []

-- whether a name can have this byte
abbrev pub is_name_byte : ℕ → Bool
is_name_byte b = not ((b == 0) || ((b == 10) || ((b == 13) || ((b == 32) || (b == 47)))))

-- whether an entry can have this name
unfoldable pub is_name : List ℕ → Bool
is_name name =
    nat_le 1 (length name) && (nat_le (length name) longest_name
    && (list_all is_name_byte name && not (bytes_eq name (46 ∷ []) || bytes_eq name (46 ∷ 46 ∷ []))))
