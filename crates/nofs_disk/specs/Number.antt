-- Numbers in a list of bytes, the lowest byte first.
use Rattle.std.specs.Prelude.{◌≡◌, ℕ, zero, suc, ◌+◌, ◌-◌, ◌^◌, ◌<◌, ◌≤◌, List, [], ◌∷◌, ◌++◌, length, take, drop}
use Rattle.std.specs.Prelude.{replicate, slice_index}
use Rattle.std.proofs.Common.{arith, sym, ap, ◌∙◌, length-append}
use Rattle.std.proofs.lemmas.List.{drop_at, drop-drop, drop-append-le, length-replicate, length-take-le, length-drop}
use Rattle.std.proofs.lemmas.List.{take-append-drop, get_or-drop}
use Rattle.std.specs.Int.{byte_at, bytes_low_first}
use Rattle.byteorder.specs.Endian.{little_bytes, little_number}
use Rattle.byteorder.specs.Numbers.{little_number-reads_back, little_from-append, little_from-lt}
use Rattle.byteorder.specs.Numbers.{length-bytes_low_first}

-- the number in the n bytes at a place
unfoldable pub number_at : ℕ → ℕ → List ℕ → ℕ
number_at n at bytes = little_number n (drop at bytes)

-- the bytes with a number of n bytes at a place
unfoldable pub put_number : ℕ → ℕ → ℕ → List ℕ → List ℕ
put_number n at x bytes = take at bytes ++ (little_bytes n x ++ drop (at + n) bytes)

-- the bytes with these at a place
unfoldable pub put_bytes : ℕ → List ℕ → List ℕ → List ℕ
put_bytes at part bytes = take at bytes ++ (part ++ drop (at + length part) bytes)

-- this many zeros
unfoldable pub zeros : ℕ → List ℕ
zeros n = replicate n 0

pub length-zeros : (n : ℕ) → length (zeros n) ≡ n
unfolding zeros
length-zeros n = length-replicate n 0

-- this many bytes
pub record IsBytes (n : ℕ) (bytes : List ℕ) : Type 0 where
  pub len : length bytes ≡ n
  pub each : (k : ℕ) → slice_index bytes k < 256

pub length-put_number : (n at x : ℕ) (bytes : List ℕ) → at + n ≤ length bytes
    → length (put_number n at x bytes) ≡ length bytes
unfolding put_number
length-put_number n at x bytes fits =
    omega (
      arith,
      length-append (take at bytes) (little_bytes n x ++ drop (at + n) bytes),
      length-append (little_bytes n x) (drop (at + n) bytes),
      length-bytes_low_first 0 n x,
      length-take-le at bytes (omega arith),
      length-drop (at + n) bytes,
    )

-- what was put is read
pub number_at-put_same : (n at x : ℕ) (bytes : List ℕ) → x < 256 ^ n → at + n ≤ length bytes
    → number_at n at (put_number n at x bytes) ≡ x
unfolding number_at put_number
number_at-put_same n at x bytes small fits =
    ap (little_number n)
    (drop_at (take at bytes) (little_bytes n x ++ drop (at + n) bytes) at (length-take-le at bytes (omega arith)))
    ∙ little_number-reads_back n x (drop (at + n) bytes) small

-- a number behind what was put stays
pub number_at-put_before : (n at m to x : ℕ) (bytes : List ℕ) → at + n ≤ length bytes → at + n ≤ to
    → number_at m to (put_number n at x bytes) ≡ number_at m to bytes
unfolding number_at put_number
number_at-put_before n at m to x bytes fits after =
    let cut : drop (at + n) (take at bytes ++ (little_bytes n x ++ drop (at + n) bytes)) ≡ drop (at + n) bytes =
    sym (drop-drop n at (take at bytes ++ (little_bytes n x ++ drop (at + n) bytes)))
    ∙ ap (drop n)
    (drop_at (take at bytes) (little_bytes n x ++ drop (at + n) bytes) at (length-take-le at bytes (omega arith)))
    ∙ drop_at (little_bytes n x) (drop (at + n) bytes) n (length-bytes_low_first 0 n x) in
    let whole : (l : List ℕ) → drop (to - (at + n)) (drop (at + n) l) ≡ drop to l =
    λ l. drop-drop (to - (at + n)) (at + n) l ∙ ap (λ k. drop k l) (omega arith) in
    ap (little_number m) (sym (whole (take at bytes ++ (little_bytes n x ++ drop (at + n) bytes)))
    ∙ ap (drop (to - (at + n))) cut ∙ whole bytes)

-- a number before what was put stays
pub number_at-put_after : (n at m to x : ℕ) (bytes : List ℕ) → at + n ≤ length bytes → to + m ≤ at
    → number_at m to (put_number n at x bytes) ≡ number_at m to bytes
unfolding number_at put_number
number_at-put_after n at m to x bytes fits before =
    let front : (rest : List ℕ)
    → little_number m (drop to (take at bytes ++ rest)) ≡ little_number m (drop to (take at bytes)) =
    λ rest. ap (little_number m)
    (drop-append-le to (take at bytes) rest (omega (arith, length-take-le at bytes (omega arith))))
    ∙ little_from-append m (drop to (take at bytes)) rest
    (omega (arith, length-take-le at bytes (omega arith), length-drop to (take at bytes))) in
    front (little_bytes n x ++ drop (at + n) bytes)
    ∙ sym (front (drop at bytes))
    ∙ ap (λ l. little_number m (drop to l)) (take-append-drop at bytes)

-- a number that was read fits its bytes
pub number_at-lt : (n at : ℕ) (bytes : List ℕ) → ((k : ℕ) → slice_index bytes k < 256) → number_at n at bytes < 256 ^ n
unfolding number_at
number_at-lt n at bytes each =
    little_from-lt 0 n (drop at bytes) (λ k. let e = get_or-drop at bytes k 0 in omega (arith, e, each (at + k)))

-- what numbers read after others were put
pub ruleset puts =
    (arith, length-zeros, length-put_number, number_at-put_same, number_at-put_before, number_at-put_after)

-- lists of bytes below 256 that are put together, or cut
pub append-byte : (xs ys : List ℕ) → ((k : ℕ) → slice_index xs k < 256) → ((k : ℕ) → slice_index ys k < 256)
    → (k : ℕ) → slice_index (xs ++ ys) k < 256
append-byte [] ys small_x small_y k = small_y k
append-byte (x ∷ xs) ys small_x small_y zero = small_x zero
append-byte (x ∷ xs) ys small_x small_y (suc k) = append-byte xs ys (λ j. small_x (suc j)) small_y k

pub take-byte : (n : ℕ) (xs : List ℕ) → ((k : ℕ) → slice_index xs k < 256) → (k : ℕ) → slice_index (take n xs) k < 256
take-byte zero xs small k = omega arith
take-byte (suc n) [] small k = omega arith
take-byte (suc n) (x ∷ xs) small zero = small zero
take-byte (suc n) (x ∷ xs) small (suc k) = take-byte n xs (λ j. small (suc j)) k

pub drop-byte : (n : ℕ) (xs : List ℕ) → ((k : ℕ) → slice_index xs k < 256) → (k : ℕ) → slice_index (drop n xs) k < 256
drop-byte n xs small k = let e = get_or-drop n xs k 0 in let s = small (n + k) in omega arith

-- the bytes of a number, from its i-th on
pub little_bytes-byte : (i n x k : ℕ) → slice_index (bytes_low_first i n x) k < 256
little_bytes-byte i zero x k = omega arith
little_bytes-byte i (suc n) x (suc k) = little_bytes-byte (suc i) n x k
little_bytes-byte i (suc n) x zero = lowest i
  where
    lowest : (j : ℕ) → byte_at j x < 256
    lowest zero = omega arith
    lowest (suc j) = omega arith

pub zeros-byte : (n k : ℕ) → slice_index (zeros n) k < 256
unfolding zeros
zeros-byte zero k = omega arith
zeros-byte (suc n) zero = omega arith
zeros-byte (suc n) (suc k) = zeros-byte n k

pub put_number-byte : (n at x : ℕ) (bytes : List ℕ) → ((k : ℕ) → slice_index bytes k < 256)
    → (k : ℕ) → slice_index (put_number n at x bytes) k < 256
unfolding put_number
put_number-byte n at x bytes small =
    append-byte (take at bytes) (little_bytes n x ++ drop (at + n) bytes) (take-byte at bytes small)
    (append-byte (little_bytes n x) (drop (at + n) bytes) (little_bytes-byte 0 n x) (drop-byte (at + n) bytes small))

pub put_bytes-byte : (at : ℕ) (part bytes : List ℕ) → ((k : ℕ) → slice_index part k < 256)
    → ((k : ℕ) → slice_index bytes k < 256) → (k : ℕ)
    → slice_index (put_bytes at part bytes) k < 256
unfolding put_bytes
put_bytes-byte at part bytes small_part small =
    append-byte (take at bytes) (part ++ drop (at + length part) bytes) (take-byte at bytes small)
    (append-byte part (drop (at + length part) bytes) small_part (drop-byte (at + length part) bytes small))

-- zeros are bytes, and bytes with a number in them
pub IsBytes-zeros : (n : ℕ) → IsBytes n (zeros n)
IsBytes-zeros n = record { len = length-zeros n; each = zeros-byte n }

pub IsBytes-put_number : (m n at x : ℕ) (bytes : List ℕ) → at + n ≤ m → IsBytes m bytes
    → IsBytes m (put_number n at x bytes)
IsBytes-put_number m n at x bytes fits is =
    let l = is.len in
    record { len = length-put_number n at x bytes (omega arith) ∙ is.len; each = put_number-byte n at x bytes is.each }
