-- A cached disk is a disk.
use Rattle.std.proofs.Common.{◌≡◌, ℕ, ◌+◌, ◌*◌, ◌^◌, ◌<◌, true, false, List, [], ◌∷◌, length, arith, inl, inr, refl}
use Rattle.std.proofs.Common.{sym, subst, ◌∙◌}
use Rattle.std.specs.Prelude.{Bool, Contains, IsTrue}
use Rattle.std.proofs.Math.Logic.{∥∥₁_elim, ∥∥₁_prop}
use Rattle.std.proofs.lemmas.Bool.{cases_eq}
use Rattle.std.proofs.lemmas.List.{length-set, get_or-set_same, get_or-set_other}
use Rattle.std.proofs.lemmas.List.Elements.{Contains-push}
use Rattle.nofs_disk.specs.declared.tag.Cell.{Cell}
use Rattle.nofs_disk.specs.Cells.{IsSizedCell-known, Picks-known, has_cell, has_cell-from}
use Rattle.nofs_disk.specs.Disk.{DiskState, IsDisk, Picks, cell_at, no_cell}
use Rattle.nofs_disk.specs.Held.{Held, IsHeld, IsWithin, written_here, written_other}
use Rattle.nofs_cache.specs.declared.dirty.past.CacheCall.{CacheCall}
use Rattle.nofs_cache.specs.declared.dirty.past.CacheCall.TheVariants.{Write, Flush}
use Rattle.nofs_cache.specs.declared.dirty.cells.DirtyEntry.{DirtyEntry}
use Rattle.nofs_cache.specs.Cached.{IsCached, Left, LeftWithin, cache_state, held, last_end, only}

single : (c : Cell) → Contains (c ∷ []) c
single c = (0, omega arith, refl)

-- a cell that may be there stays
pub only_has : (cells : List Cell) (c : Cell) → Contains cells c → Contains (only (has_cell cells c) c) c
only_has cells c has =
    let F : Bool → Type 0 = λ t. Contains (only t c) c in
    subst F (sym (has_cell-from cells c has)) (single c)

pub held-held : (n : ℕ) (first : Held) (past : List CacheCall) → IsHeld n first → IsHeld n (held first past)
held-held n first [] is = is
held-held n first (Write block cell at ∷ past) is =
    let h = held first past in
    let before = held-held n first past is in
    record {
      len = length-set h.now block cell.value ∙ before.len;
      has_now = λ b low. elim (cases_eq b block) [
        | inl same ↦
            let inside : block < length h.now = let len = before.len in omega arith in
            rw (same, written_here h block cell.value, get_or-set_same h.now block cell.value no_cell inside)
            (Contains-push (h.may block) cell.value)
        | inr other ↦ rw (
          written_other h block b cell.value other,
          get_or-set_other h.now block b cell.value no_cell other,
        ) (before.has_now b low)
      ];
    }
held-held n first (Flush true from to ∷ past) is =
    let h = held-held n first past is in
    record {
      len = h.len;
      has_now = λ b low. only_has ((held first past).may b) (cell_at (held first past).now b) (h.has_now b low);
    }
held-held n first (Flush false from to ∷ past) is = held-held n first past is

-- what the disk below held as it was given
abbrev pub first_held : DiskState → Held
first_held first = record { now = first.now; may = first.may }

-- what may be left at a moment that is not there yet
pub Left-later : (leaves : ℕ → List Cell → Type 0) (first : ℕ) (past : List CacheCall) (to m : ℕ) (image : List Cell)
    → 2 * length past < m
    → Left leaves first past to m image → ⊥
Left-later leaves first [] to m image later (at, left) = omega arith
Left-later leaves first (call ∷ past) to m image later (inl (at, left)) = omega arith
Left-later leaves first (call ∷ past) to m image later (inr (inl (at, left))) = omega arith
Left-later leaves first (call ∷ past) to m image later (inr (inr left)) =
    Left-later leaves first past _ m image (omega arith) left

-- what may be left at the present moment
pub Left-now : (leaves : ℕ → List Cell → Type 0) (first : ℕ) (past : List CacheCall) (to : ℕ) (image : List Cell)
    → Left leaves first past to (2 * length past) image → LeftWithin leaves (last_end first past) to image
Left-now leaves first [] to image (at, left) = left
Left-now leaves first (call ∷ past) to image (inl (at, left)) = left
Left-now leaves first (call ∷ past) to image (inr (inl (at, left))) = absurd (omega arith)
Left-now leaves first (call ∷ past) to image (inr (inr left)) =
    absurd (Left-later leaves first past _ (2 * length (call ∷ past)) image (omega arith) left)

-- what is kept of a cached disk over all its calls
abbrev pub CacheKeeps : DiskState → DiskState → List CacheCall → List DirtyEntry → Type 0
CacheKeeps under first past entries = IsCached (held (first_held first) past) (last_end first.moment past) under entries

-- an image that may be left at the present moment picks from what the cached disk may hold
pub rest_picks : (under first : DiskState) (past : List CacheCall) (entries : List DirtyEntry)
    → ∥ CacheKeeps under first past entries ∥₁
    → (image : List Cell) → Left under.left first.moment past under.moment (2 * length past) image
    → Picks (held (first_held first) past).may under.blocks image
rest_picks under first past entries kept image left =
    let within = Left-now under.left first.moment past under.moment image left in
    Picks-known _ _ image
    (∥∥₁_elim kept ∥∥₁_prop (λ k. ∣ k.picks.each within.at image within.low within.high within.left ∣₁))

-- each cell that may be held is that of a block that is there, and has the bytes of a cell
pub within_of : (under first : DiskState) (past : List CacheCall) (entries : List DirtyEntry)
    → ∥ CacheKeeps under first past entries ∥₁
    → IsWithin (held (first_held first) past).may under.blocks
within_of under first past entries kept = record {
  beyond = λ b c low has. ∥∥₁_elim kept (λ x y. absurd x) (λ k. k.within.beyond b c low has);
  sized = λ b c has. IsSizedCell-known c (∥∥₁_elim kept ∥∥₁_prop (λ k. ∣ k.within.sized b c has ∣₁));
}

-- a cached disk keeps every law of a disk
pub cache_is : (under first : DiskState) (past : List CacheCall) (entries : List DirtyEntry) (spare : ℕ)
    → IsDisk under → IsDisk first
    → first.blocks ≡ under.blocks → first.tells ≡ under.tells
    → {moment : ℕ} → moment ≡ 2 * length past → 2 * spare + moment < 2 ^ 64 → ∥ CacheKeeps under first past entries ∥₁
    → IsDisk (cache_state under first past entries spare)
cache_is under first past entries spare below is blocks tells {moment} made room kept =
    let begins : IsTrue under.tells → IsHeld under.blocks (first_held first) = λ t.
    let F : Bool → Type 0 = λ x. IsTrue x in
    let told : IsTrue first.tells = subst F (sym tells) t in
    record { len = is.whole told ∙ blocks; has_now = λ b low. is.has_now b told (omega arith) } in
    record {
      room = omega arith;
      counted = below.counted;
      beyond = (within_of under first past entries kept).beyond;
      sized = (within_of under first past entries kept).sized;
      whole = λ t. (held-held under.blocks (first_held first) past (begins t)).len;
      has_now = λ b t low. (held-held under.blocks (first_held first) past (begins t)).has_now b low;
      at_rest = λ image left. rest_picks under first past entries kept image left;
    }
