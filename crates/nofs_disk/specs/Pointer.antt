-- Pointers, and the 16 bytes that hold one: the block, then the stamp.
use Rattle.std.specs.Prelude.{◌≡◌, ℕ, ◌+◌, ◌^◌, ◌<◌, ◌≤◌, ◌==◌, ◌&&◌, ◌⊎◌, Bool, List, length}
use Rattle.std.proofs.Common.{arith, inl, inr, ◌∙◌}
use Rattle.nofs_disk.specs.Number.{number_at, put_number, length-put_number, number_at-put_same, number_at-put_before}
use Rattle.nofs_disk.specs.Number.{number_at-put_after}
use Rattle.nofs_disk.specs.declared.tag.Pointer.{Pointer}

-- the pointer that names no block
abbrev pub null : Pointer
null = record { block = 0; stamp = 0 }

-- whether a pointer names no block
abbrev pub is_null : Pointer → Bool
is_null it = (it.block == 0) && (it.stamp == 0)

-- the pointer in the 16 bytes at a place
unfoldable pub pointer_in : ℕ → List ℕ → Pointer
pointer_in at bytes = record { block = number_at 8 at bytes; stamp = number_at 8 (at + 8) bytes }

-- the bytes with a pointer at a place
unfoldable pub put_pointer : ℕ → Pointer → List ℕ → List ℕ
put_pointer at it bytes = put_number 8 (at + 8) it.stamp (put_number 8 at it.block bytes)

-- numbers that a pointer can hold
pub record IsPointer (it : Pointer) : Type 0 where
  pub block : it.block < 2 ^ 64
  pub stamp : it.stamp < 2 ^ 64

pub length-put_pointer : (at : ℕ) (it : Pointer) (bytes : List ℕ) → at + 16 ≤ length bytes
    → length (put_pointer at it bytes) ≡ length bytes
unfolding put_pointer
length-put_pointer at it bytes fits =
    let first = length-put_number 8 at it.block bytes (omega arith) in
    length-put_number 8 (at + 8) it.stamp (put_number 8 at it.block bytes) (omega arith) ∙ first

-- a number apart from a pointer that was put stays
number_at-put_pointer : (at m to : ℕ) (it : Pointer) (bytes : List ℕ) → at + 16 ≤ length bytes
    → (at + 16 ≤ to) ⊎ (to + m ≤ at) → number_at m to (put_pointer at it bytes) ≡ number_at m to bytes
unfolding put_pointer
number_at-put_pointer at m to it bytes fits apart =
    let len = length-put_number 8 at it.block bytes (omega arith) in
    elim apart [
      | inl after ↦
          number_at-put_before 8 (at + 8) m to it.stamp (put_number 8 at it.block bytes) (omega arith) (omega arith)
          ∙ number_at-put_before 8 at m to it.block bytes (omega arith) (omega arith)
      | inr before ↦
          number_at-put_after 8 (at + 8) m to it.stamp (put_number 8 at it.block bytes) (omega arith) (omega arith)
          ∙ number_at-put_after 8 at m to it.block bytes (omega arith) (omega arith)
    ]

-- as it does behind the pointer
pub number_at-put_pointer_before : (at m to : ℕ) (it : Pointer) (bytes : List ℕ) → at + 16 ≤ length bytes → at + 16 ≤ to
    → number_at m to (put_pointer at it bytes) ≡ number_at m to bytes
number_at-put_pointer_before at m to it bytes fits after = number_at-put_pointer at m to it bytes fits (inl after)

-- and before it
pub number_at-put_pointer_after : (at m to : ℕ) (it : Pointer) (bytes : List ℕ) → at + 16 ≤ length bytes → to + m ≤ at
    → number_at m to (put_pointer at it bytes) ≡ number_at m to bytes
number_at-put_pointer_after at m to it bytes fits before = number_at-put_pointer at m to it bytes fits (inr before)

-- the pointer that was put is read
pub pointer_in-put_same : (at : ℕ) (it : Pointer) (bytes : List ℕ) → IsPointer it → at + 16 ≤ length bytes
    → pointer_in at (put_pointer at it bytes) ≡ it
unfolding pointer_in put_pointer
pointer_in-put_same at it bytes is fits =
    let len = length-put_number 8 at it.block bytes (omega arith) in
    let small_block = is.block in
    let small_stamp = is.stamp in
    let block : number_at 8 at (put_number 8 (at + 8) it.stamp (put_number 8 at it.block bytes)) ≡ it.block =
    number_at-put_after 8 (at + 8) 8 at it.stamp (put_number 8 at it.block bytes) (omega arith) (omega arith)
    ∙ number_at-put_same 8 at it.block bytes (omega arith) (omega arith) in
    let stamp : number_at 8 (at + 8) (put_number 8 (at + 8) it.stamp (put_number 8 at it.block bytes)) ≡ it.stamp =
    number_at-put_same 8 (at + 8) it.stamp (put_number 8 at it.block bytes) (omega arith) (omega arith) in
    λ i. record { block = block i; stamp = stamp i }

-- a pointer behind one that was put stays
pub pointer_in-put_before : (at to : ℕ) (it : Pointer) (bytes : List ℕ) → at + 16 ≤ length bytes → at + 16 ≤ to
    → pointer_in to (put_pointer at it bytes) ≡ pointer_in to bytes
unfolding pointer_in
pointer_in-put_before at to it bytes fits after =
    let block = number_at-put_pointer_before at 8 to it bytes fits after in
    let stamp = number_at-put_pointer_before at 8 (to + 8) it bytes fits (omega arith) in
    λ i. record { block = block i; stamp = stamp i }

-- a pointer before one that was put stays
pub pointer_in-put_after : (at to : ℕ) (it : Pointer) (bytes : List ℕ) → at + 16 ≤ length bytes → to + 16 ≤ at
    → pointer_in to (put_pointer at it bytes) ≡ pointer_in to bytes
unfolding pointer_in
pointer_in-put_after at to it bytes fits before =
    let block = number_at-put_pointer_after at 8 to it bytes fits (omega arith) in
    let stamp = number_at-put_pointer_after at 8 (to + 8) it bytes fits (omega arith) in
    λ i. record { block = block i; stamp = stamp i }

-- a pointer behind a number that was put stays
pub pointer_in-put_number_before : (n at to x : ℕ) (bytes : List ℕ) → at + n ≤ length bytes → at + n ≤ to
    → pointer_in to (put_number n at x bytes) ≡ pointer_in to bytes
unfolding pointer_in
pointer_in-put_number_before n at to x bytes fits after =
    let block = number_at-put_before n at 8 to x bytes fits after in
    let stamp = number_at-put_before n at 8 (to + 8) x bytes fits (omega arith) in
    λ i. record { block = block i; stamp = stamp i }

-- a pointer before a number that was put stays
pub pointer_in-put_number_after : (n at to x : ℕ) (bytes : List ℕ) → at + n ≤ length bytes → to + 16 ≤ at
    → pointer_in to (put_number n at x bytes) ≡ pointer_in to bytes
unfolding pointer_in
pointer_in-put_number_after n at to x bytes fits before =
    let block = number_at-put_after n at 8 to x bytes fits (omega arith) in
    let stamp = number_at-put_after n at 8 (to + 8) x bytes fits (omega arith) in
    λ i. record { block = block i; stamp = stamp i }

-- what numbers and pointers read after pointers were put
pub ruleset pointer_puts = (
  arith,
  length-put_pointer,
  number_at-put_pointer_before,
  number_at-put_pointer_after,
  pointer_in-put_same,
  pointer_in-put_before,
  pointer_in-put_after,
)
