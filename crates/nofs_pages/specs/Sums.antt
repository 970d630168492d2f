-- XXH64 of bytes whose number is a multiple of 32 (docs/FORMAT.md, "Pages").
use Rattle.std.specs.Prelude.{ℕ, zero, suc, ◌+◌, ◌-◌, ◌*◌, ◌/◌, ◌%◌, ◌^◌, List, length, slice_range, bit_xor}
use Rattle.std.specs.Int.{w64, rotate_left}
use Rattle.nofs_disk.specs.Number.{number_at}
use Rattle.nofs_pages.specs.declared.sum.Lanes.{Lanes}

abbrev pub prime_1 : ℕ
prime_1 = 0x9e3779b185ebca87

abbrev pub prime_2 : ℕ
prime_2 = 0xc2b2ae3d27d4eb4f

abbrev pub prime_3 : ℕ
prime_3 = 0x165667b19e3779f9

abbrev pub prime_4 : ℕ
prime_4 = 0x85ebca77c2b2ae63

-- an accumulator took a word
unfoldable pub round_of : ℕ → ℕ → ℕ
round_of lane word = rotate_left w64 ((lane + word * prime_2 % 2 ^ 64) % 2 ^ 64) 31 * prime_1 % 2 ^ 64

-- the accumulators at first
unfoldable pub begin_of : ℕ → Lanes
begin_of seed = record {
  one = ((seed + prime_1) % 2 ^ 64 + prime_2) % 2 ^ 64;
  two = (seed + prime_2) % 2 ^ 64;
  three = seed;
  four = (seed + (2 ^ 64 - prime_1)) % 2 ^ 64;
}

-- the accumulators took a stripe of 32 bytes
unfoldable pub stripe_of : Lanes → List ℕ → Lanes
stripe_of lanes stripe = record {
  one = round_of lanes.one (number_at 8 0 stripe);
  two = round_of lanes.two (number_at 8 8 stripe);
  three = round_of lanes.three (number_at 8 16 stripe);
  four = round_of lanes.four (number_at 8 24 stripe);
}

-- the sum took an accumulator
unfoldable pub merge_of : ℕ → ℕ → ℕ
merge_of sum lane = (bit_xor sum (round_of 0 lane) * prime_1 % 2 ^ 64 + prime_4) % 2 ^ 64

-- the sum with its bits mixed
unfoldable pub mixed : ℕ → ℕ
mixed sum =
    let one = bit_xor sum (sum / 2 ^ 33) * prime_2 % 2 ^ 64 in
    let two = bit_xor one (one / 2 ^ 29) * prime_3 % 2 ^ 64 in
    bit_xor two (two / 2 ^ 32)

-- the sum of so many bytes that these accumulators took
unfoldable pub end_of : Lanes → ℕ → ℕ
end_of lanes count =
    let all = (((rotate_left w64 lanes.one 1 + rotate_left w64 lanes.two 7) % 2 ^ 64
    + rotate_left w64 lanes.three 12) % 2 ^ 64 + rotate_left w64 lanes.four 18) % 2 ^ 64 in
    let merged = merge_of (merge_of (merge_of (merge_of all lanes.one) lanes.two) lanes.three) lanes.four in
    mixed ((merged + count) % 2 ^ 64)

-- the accumulators after so many stripes
unfoldable pub lanes_after : ℕ → List ℕ → ℕ → Lanes
lanes_after seed bytes zero = begin_of seed
lanes_after seed bytes (suc k) = stripe_of (lanes_after seed bytes k) (slice_range bytes (32 * k) (32 * k + 32))

-- the sum of all bytes
unfoldable pub sum_in : ℕ → List ℕ → ℕ
sum_in seed bytes = end_of (lanes_after seed bytes (length bytes / 32)) (length bytes)
