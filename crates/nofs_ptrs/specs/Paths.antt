-- Where the pointer of a slot stands: in the record, or in the block of the slot above it.
use Rattle.std.specs.Prelude.{◌≡◌, ℕ, ◌+◌, ◌-◌, ◌*◌, ◌/◌, ◌%◌, ◌^◌, ◌<◌, Bool, true, false, ◌&&◌, ◌||◌, ◌==◌}
use Rattle.std.specs.Prelude.{if◌then◌else◌, nat_lt, nat_le}
use Rattle.nofs_ptrs.specs.declared.path.SlotPath.{SlotPath}
use Rattle.nofs_ptrs.specs.declared.path.SlotPath.TheVariants as slot

-- a place in the record, or a place in the block of the slot above. The leaf is place 8 of the
-- record, the top place 9, and a child stands under the top
pub data Path : Type 0 where
  InRecord : (place : ℕ) → Path
  Under : (above : Path) (place : ℕ) → Path

abbrev pub leaf : Path
leaf = InRecord 8

abbrev pub top : Path
top = InRecord 9

abbrev pub child : ℕ → Path
child j = Under top j

-- how many slots of content a file has at most: 8 in the record, 64 below the leaf, 64 times 64 below the top
abbrev pub slot_limit : ℕ
slot_limit = 4168

-- the place of the slot with this number. It is asked of numbers that are slots alone (`is_slot`)
unfoldable pub path_of : ℕ → Path
path_of k =
    if nat_lt k 8 then InRecord k else
    (if nat_lt k 72 then Under leaf (k - 8) else
    (if nat_lt k slot_limit then Under (child ((k - 72) / 64)) ((k - 72) % 64) else
    (if nat_lt k (2 ^ 32 + 2) then InRecord (8 + (k - 2 ^ 32)) else child (k - (2 ^ 32 + 2)))))

-- the number of the slot with this place
unfoldable pub slot_of : Path → ℕ
slot_of (InRecord n) = if nat_lt n 8 then n else 2 ^ 32 + (n - 8)
slot_of (Under (InRecord n) j) = if n == 8 then 8 + j else 2 ^ 32 + 2 + j
slot_of (Under (Under above j) q) = 72 + 64 * j + q

-- the slot's block holds pointers: the leaf, the top, a child
abbrev pub is_pointer_slot : Path → Bool
is_pointer_slot (InRecord n) = nat_le 8 n
is_pointer_slot (Under (InRecord n) j) = n == 9
is_pointer_slot (Under (Under above j) q) = false

-- a place of a record or a block of pointers
abbrev pub IsSlot : Path → Type 0
IsSlot (InRecord n) = n < 10
IsSlot (Under above n) = (is_pointer_slot above ≡ true) × (n < 64) × IsSlot above

-- this number is a slot's
abbrev pub is_slot : ℕ → Bool
is_slot k = nat_lt k slot_limit || nat_le (2 ^ 32) k && nat_lt k (2 ^ 32 + 66)

-- the place that a slot path tells
abbrev pub place_of : SlotPath → Path
place_of (slot.Direct n) = InRecord n
place_of (slot.Leaf n) = Under leaf n
place_of (slot.Child j n) = Under (child j) n
