-- The parts of a list of bytes that a write leaves.
use Rattle.std.proofs.Common.{◌≡◌, ℕ, ◌+◌, ◌-◌, ◌≤◌, List, ◌++◌, length, take, drop, arith, refl, sym, ap, ◌∙◌}
use Rattle.std.specs.Prelude.{slice_range}
use Rattle.std.proofs.lemmas.List.{drop_at, drop-drop, length-append, length-drop, length-take-le, take-append-le}
use Rattle.std.proofs.lemmas.List.{take_at, take-replicate, drop-replicate}
use Rattle.std.proofs.lemmas.List.{take-take}
use Rattle.std.proofs.lemmas.Slice.{between_is}
use Rattle.byteorder.specs.Endian.{little_bytes}
use Rattle.byteorder.specs.Numbers.{length-bytes_low_first}
use Rattle.nofs_disk.specs.Number.{put_bytes, put_number, zeros}

-- what stands behind a part that was put
drop_behind : (n at to : ℕ) (part bytes : List ℕ) → length part ≡ n → at ≤ length bytes → at + n ≤ to
    → drop to (take at bytes ++ (part ++ drop (at + n) bytes)) ≡ drop to bytes
drop_behind n at to part bytes len fits behind =
    let all = take at bytes ++ (part ++ drop (at + n) bytes) in
    let cut : drop (at + n) all ≡ drop (at + n) bytes =
    sym (drop-drop n at all)
    ∙ ap (drop n) (drop_at (take at bytes) (part ++ drop (at + n) bytes) at (length-take-le at bytes fits))
    ∙ drop_at part (drop (at + n) bytes) n len in
    let whole : (l : List ℕ) → drop (to - (at + n)) (drop (at + n) l) ≡ drop to l =
    λ l. drop-drop (to - (at + n)) (at + n) l ∙ ap (λ k. drop k l) (omega arith) in
    sym (whole all) ∙ ap (drop (to - (at + n))) cut ∙ whole bytes

-- what stands in front of a part that was put
take_front : (at to : ℕ) (rest bytes : List ℕ) → at ≤ length bytes
    → to ≤ at → take to (take at bytes ++ rest) ≡ take to bytes
take_front at to rest bytes fits front =
    take-append-le to (take at bytes) rest (let e = length-take-le at bytes fits in omega arith)
    ∙ take-take to at bytes front

pub drop-put_number : (n at x to : ℕ) (bytes : List ℕ) → at ≤ length bytes
    → at + n ≤ to → drop to (put_number n at x bytes) ≡ drop to bytes
unfolding put_number
drop-put_number n at x to bytes fits behind =
    drop_behind n at to (little_bytes n x) bytes (length-bytes_low_first 0 n x) fits behind

pub take-put_number : (n at x to : ℕ) (bytes : List ℕ) → at ≤ length bytes
    → to ≤ at → take to (put_number n at x bytes) ≡ take to bytes
unfolding put_number
take-put_number n at x to bytes fits front = take_front at to (little_bytes n x ++ drop (at + n) bytes) bytes fits front

pub drop-put_bytes : (at to : ℕ) (part bytes : List ℕ) → at ≤ length bytes
    → at + length part ≤ to → drop to (put_bytes at part bytes) ≡ drop to bytes
unfolding put_bytes
drop-put_bytes at to part bytes fits behind = drop_behind (length part) at to part bytes refl fits behind

pub take-put_bytes_first : (n : ℕ) (part bytes : List ℕ) → length part ≡ n → take n (put_bytes 0 part bytes) ≡ part
unfolding put_bytes
take-put_bytes_first n part bytes len = take_at part (drop (0 + length part) bytes) n len

-- a range behind or in front of a number that was put
pub range-put_behind : (n at x a b : ℕ) (bytes : List ℕ) → at ≤ length bytes
    → at + n ≤ a → slice_range (put_number n at x bytes) a b ≡ slice_range bytes a b
range-put_behind n at x a b bytes fits behind = ap (take (b - a)) (drop-put_number n at x a bytes fits behind)

pub range-put_front : (n at x a b : ℕ) (bytes : List ℕ) → at ≤ length bytes
    → b ≤ at → slice_range (put_number n at x bytes) a b ≡ slice_range bytes a b
range-put_front n at x a b bytes fits front =
    between_is (put_number n at x bytes) a b ∙ ap (drop a) (take-put_number n at x b bytes fits front)
    ∙ sym (between_is bytes a b)

-- a range of zeros
pub range-zeros : (n a b : ℕ) → b ≤ n → slice_range (zeros n) a b ≡ zeros (b - a)
unfolding zeros
range-zeros n a b fits = ap (take (b - a)) (drop-replicate a n 0) ∙ take-replicate (b - a) (n - a) 0 (omega arith)

pub length-put_bytes : (at : ℕ) (part bytes : List ℕ) → at + length part ≤ length bytes
    → length (put_bytes at part bytes) ≡ length bytes
unfolding put_bytes
length-put_bytes at part bytes fits =
    omega (
      arith,
      length-append (take at bytes) (part ++ drop (at + length part) bytes),
      length-append part (drop (at + length part) bytes),
      length-take-le at bytes (omega arith),
      length-drop (at + length part) bytes,
    )
