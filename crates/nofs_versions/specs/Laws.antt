-- A disk in memory is a disk.
use Rattle.std.proofs.Common.{◌≡◌, ℕ, ◌+◌, ◌*◌, ◌^◌, ◌<◌, true, false, List, [], ◌∷◌, length, arith, inl, inr, refl}
use Rattle.std.proofs.Common.{sym, subst, ◌∙◌}
use Rattle.std.specs.Prelude.{Contains, fold}
use Rattle.std.proofs.lemmas.Bool.{cases_eq, cases_lt, le-ltb, lt-ltb}
use Rattle.std.proofs.lemmas.List.{length-set, get_or-set_same, get_or-set_other, take_all}
use Rattle.std.proofs.lemmas.List.Elements.{Contains-push}
use Rattle.nofs_disk.specs.declared.tag.Cell.{Cell}
use Rattle.nofs_disk.specs.Disk.{IsDisk, IsSizedCell, Picks, cell_at, no_cell}
use Rattle.nofs_disk.specs.Held.{Held, IsHeld, written, written_here, written_other}
use Rattle.nofs_versions.specs.declared.call.Call.{Call}
use Rattle.nofs_versions.specs.declared.call.Call.TheVariants.{Write, Flush}
use Rattle.nofs_versions.specs.Memory.{settled, after_call, held_after, MayLeave, state_of, within}

single : (c : Cell) → Contains (c ∷ []) c
single c = (0, omega arith, refl)

settled-held : (n : ℕ) (cells : List Cell) → length cells ≡ n → IsHeld n (settled cells)
settled-held n cells len = record { len = len; has_now = λ b low. single (cell_at cells b) }

written-held : (n : ℕ) (held : Held) (block : ℕ) (cell : Cell) → IsHeld n held → IsHeld n (written held block cell)
written-held n held block cell is = record {
  len = length-set held.now block cell ∙ is.len;
  has_now = λ b low. elim (cases_eq b block) [
    | inl same ↦
        let inside : block < length held.now = let len = is.len in omega arith in
        rw (same, written_here held block cell, get_or-set_same held.now block cell no_cell inside)
        (Contains-push (held.may block) cell)
    | inr other ↦ rw (written_other held block b cell other, get_or-set_other held.now block b cell no_cell other)
        (is.has_now b low)
  ];
}

call-held : (n : ℕ) (held : Held) (call : Call) → IsHeld n held → IsHeld n (after_call held call)
call-held n held (Write block cell true) is = written-held n held block cell is
call-held n held (Write block cell false) is = is
call-held n held (Flush true) is = settled-held n held.now is.len
call-held n held (Flush false) is = is

fold-held : (n : ℕ) (held : Held) (calls : List Call) → IsHeld n held → IsHeld n (fold after_call held calls)
fold-held n held [] is = is
fold-held n held (call ∷ calls) is = fold-held n (after_call held call) calls (call-held n held call is)

pub held_after-held : (base : List Cell) (calls : List Call) → IsHeld (length base) (held_after base calls)
unfolding held_after
held_after-held base calls = fold-held (length base) (settled base) calls (settled-held (length base) base refl)

-- a crash at rest leaves what the disk may hold then
at_rest : (start : ℕ) (base : List Cell) (calls : List Call) (image : List Cell)
    → MayLeave start base calls (start + 2 * length calls) image
    → Picks (held_after base calls).may (length base) image
at_rest start base calls image (inl left) =
    let F : List Call → Type 0 = λ l. Picks (held_after base l).may (length base) image in
    subst F (take_all left.k calls (let e = left.at in omega arith)) left.picks
at_rest start base calls image (inr left) = absurd (let e = left.at in omega arith)

-- a block that is there has its list, and one past the end has none
pub within_is : (n : ℕ) (may : ℕ → List Cell) (b : ℕ) → b < n → within n may b ≡ may b
within_is n may b low = rw (lt-ltb b n low) refl

pub within_has : (n : ℕ) (may : ℕ → List Cell) (b : ℕ) (c : Cell) → Contains (within n may b) c
    → (b < n) × Contains (may b) c
within_has n may b c has = elim (cases_lt b n) [
  | inl low ↦ (low, subst (λ (l : List Cell). Contains l c) (within_is n may b low) has)
  | inr past ↦ let none : within n may b ≡ [] = rw (le-ltb b n past) refl in
      absurd (nothing (subst (λ (l : List Cell). Contains l c) none has))
]
  where
    nothing : Contains [] c → ⊥
    nothing (k, low, is) = omega arith

pub within_from : (n : ℕ) (may : ℕ → List Cell) (b : ℕ) (c : Cell) → b < n → Contains (may b) c
    → Contains (within n may b) c
within_from n may b c low has = subst (λ (l : List Cell). Contains l c) (sym (within_is n may b low)) has

-- an image picks from the lists of all blocks where it picks from those of the blocks that there are
pub picks-within : (n : ℕ) (may : ℕ → List Cell) (image : List Cell) → Picks may n image → Picks (within n may) n image
picks-within n may image picks =
    record { len = picks.len; each = λ b low. within_from n may b (cell_at image b) low (picks.each b low) }

pub picks_out : (n : ℕ) (may : ℕ → List Cell) (image : List Cell) → Picks (within n may) n image → Picks may n image
picks_out n may image picks =
    record { len = picks.len; each = λ b low. (within_has n may b (cell_at image b) (picks.each b low)).1 }

-- each cell that a block may hold has the bytes of a cell
pub record AreSized (n : ℕ) (may : ℕ → List Cell) : Type 0 where
  pub each : (b : ℕ) (c : Cell) → b < n → Contains (may b) c → IsSizedCell c

pub state_of-is : (start : ℕ) (base : List Cell) (calls : List Call) (spare faults : ℕ)
    → 2 * spare + (start + 2 * length calls) < 2 ^ 64 → faults < 2 ^ 64
    → AreSized (length base) (held_after base calls).may → IsDisk (state_of start base calls spare faults)
state_of-is start base calls spare faults room counted sized = record {
  room = room;
  counted = counted;
  whole = λ tells. (held_after-held base calls).len;
  has_now = λ b tells low. within_from (length base) (held_after base calls).may b _ low
      ((held_after-held base calls).has_now b low);
  beyond = λ b c past has. let two = within_has (length base) (held_after base calls).may b c has in
      let l = two.0 in omega arith;
  sized = λ b c has. let two = within_has (length base) (held_after base calls).may b c has in
      sized.each b c two.0 two.1;
  at_rest = λ image left. picks-within (length base) (held_after base calls).may image
      (at_rest start base calls image left);
}
