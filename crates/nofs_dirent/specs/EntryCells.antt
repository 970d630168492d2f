-- What a write into one place of a directory cell leaves in the others.
use Rattle.std.proofs.Common.{◌≡◌, ◌≢◌, ℕ, ◌+◌, ◌-◌, ◌*◌, ◌≤◌, inl, inr, List, ◌++◌, length, take, drop, None, arith}
use Rattle.std.proofs.Common.{refl, sym, ap, ◌∙◌}
use Rattle.std.proofs.lemmas.Bool.{cases_lt}
use Rattle.std.proofs.lemmas.List.{drop_at, length-take-le, take-append-le, take-take, take_at}
use Rattle.std.proofs.lemmas.Slice.{between_is}
use Rattle.nofs_disk.specs.Number.{number_at, put_bytes, zeros}
use Rattle.nofs_disk.specs.Parts.{drop-put_bytes}
use Rattle.nofs_dirent.specs.Entries.{entry_bytes, entry_fields, entry_of}

-- the place that was written has the new bytes
pub entry_bytes-put : (at : ℕ) (part old : List ℕ) → length part ≡ 64 → 64 * at ≤ length old
    → entry_bytes (put_bytes (64 * at) part old) at ≡ part
unfolding put_bytes
entry_bytes-put at part old len fits =
    ap (take 64) (drop_at (take (64 * at) old) (part ++ drop (64 * at + length part) old) (64 * at)
    (length-take-le (64 * at) old fits))
    ∙ take_at part (drop (64 * at + length part) old) 64 len

take-put_bytes : (to at : ℕ) (part old : List ℕ) → at ≤ length old
    → to ≤ at → take to (put_bytes at part old) ≡ take to old
unfolding put_bytes
take-put_bytes to at part old fits front =
    take-append-le to (take at old) (part ++ drop (at + length part) old)
    (let e = length-take-le at old fits in omega arith) ∙ take-take to at old front

-- another place has the bytes that it had
pub entry_bytes-beside : (at j : ℕ) (part old : List ℕ) → length part ≡ 64 → 64 * at ≤ length old → j ≢ at
    → entry_bytes (put_bytes (64 * at) part old) j ≡ entry_bytes old j
entry_bytes-beside at j part old len fits other = elim (cases_lt j at) [
  | inl before ↦
      let size : 64 ≡ 64 * j + 64 - 64 * j = omega arith in
      let whole : (l : List ℕ) → take 64 (drop (64 * j) l) ≡ drop (64 * j) (take (64 * j + 64) l) =
      λ l. ap (λ n. take n (drop (64 * j) l)) size ∙ between_is l (64 * j) (64 * j + 64) in
      whole (put_bytes (64 * at) part old)
      ∙ ap (drop (64 * j)) (take-put_bytes (64 * j + 64) (64 * at) part old fits (omega arith)) ∙ sym (whole old)
  | inr rest ↦ elim (cases_lt at j) [
    | inl behind ↦ ap (take 64) (drop-put_bytes (64 * at) (64 * j) part old fits (omega arith))
    | inr same ↦ absurd (other (omega arith))
  ]
]

-- zeros spell no entry
pub entry_of-zeros : entry_of (zeros 64) ≡ None
unfolding entry_of entry_fields number_at zeros
entry_of-zeros = refl
