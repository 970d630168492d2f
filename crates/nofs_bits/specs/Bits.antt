-- Truth values by place, and the words in which they lie as bits.
use Rattle.std.specs.Prelude.{◌≡◌, ℕ, ◌/◌, ◌%◌, ◌<◌, ◌≤◌, Bool, true, false, eqb, List, length, map, slice_index_or}
use Rattle.std.specs.Prelude.{count_by}
use Rattle.std.specs.List.{range_with_len}
use Rattle.std.specs.Int.{bit_at}

-- whether a place is set; past the end none is
abbrev pub is_set : List Bool → ℕ → Bool
is_set bits at = slice_index_or bits at false

-- how many places are set
abbrev pub count_set : List Bool → ℕ
count_set bits = count_by (λ bit. bit) bits

-- no place is set from the first one given up to the second, which is not meant
abbrev pub NoneSet : List Bool → ℕ → ℕ → Type 0
NoneSet bits from end = (at : ℕ) → from ≤ at → at < end → is_set bits at ≡ false

-- the least place that is set; where none is, the end
pub record IsFirst (bits : List Bool) (first : ℕ) : Type 0 where
  pub none : NoneSet bits 0 first
  pub set : first < length bits → is_set bits first ≡ true

-- the bit of a place: 64 places a word, the first in the lowest bit
unfoldable pub bit_of : List ℕ → ℕ → Bool
bit_of words at = eqb (bit_at (slice_index_or words (at / 64) 0) (at % 64)) 1

-- the truth values of the first so many places
unfoldable pub truths : List ℕ → ℕ → List Bool
truths words places = map (bit_of words) (range_with_len 0 places)

-- no place of words is set from the first one given up to the second, which is not meant
abbrev pub NoneInWords : List ℕ → ℕ → ℕ → Type 0
NoneInWords words from end = (at : ℕ) → from ≤ at → at < end → bit_of words at ≡ false
