-- Flushes and write-outs of a cached disk.
use Rattle.std.proofs.Common.{◌≡◌, ◌↔◌, ℕ, zero, suc, ◌+◌, ◌*◌, ◌<◌, Bool, true, false, List, [], ◌∷◌, length, map}
use Rattle.std.proofs.Common.{arith, refl, sym, ap, subst, ◌∙◌, Option}
use Rattle.std.proofs.Common.{None, Some, Result, Ok, Err}
use Rattle.std.specs.Prelude.{Contains, IfOk, IfSome, IsPermutation, OnErr, OnOk, is_ok}
use Rattle.std.proofs.Math.Logic.{∥∥₁_elim, ∥∥₁_prop}
use Rattle.std.proofs.lemmas.List.{length-map}
use Rattle.nofs_disk.specs.declared.Failed.{Failed}
use Rattle.nofs_disk.specs.declared.tag.Cell.{Cell}
use Rattle.nofs_disk.specs.Cells.{Picks-known, has_cell, has_cell-true}
use Rattle.nofs_disk.specs.Disk.{DiskState, Flushes, IsDisk, IsSettled, Picks, Rose, WritesOut, cell_at}
use Rattle.nofs_disk.specs.Moments.{AtEach}
use Rattle.nofs_disk.specs.Held.{Held, IsWithin}
use Rattle.nofs_cache.specs.declared.dirty.cells.DirtyEntry.{DirtyEntry}
use Rattle.nofs_cache.specs.declared.dirty.past.CacheCall.{CacheCall}
use Rattle.nofs_cache.specs.declared.dirty.past.CacheCall.TheVariants.{Flush}
use Rattle.nofs_cache.specs.Cached.{Agrees, Covers, IsMarked, Left, WrittenBack, SettlesDirty, TakesOut}
use Rattle.nofs_cache.specs.Cached.{held_after_flush, cache_state}
use Rattle.nofs_cache.specs.Cached.{held, last_end, only}
use Rattle.nofs_cache.specs.Laws.{CacheKeeps, first_held, only_has}
use Rattle.nofs_cache.proofs.OnCached.Calls.{agrees_of, cache_disk, cache_past_more, left_before, left_during}
use Rattle.nofs_cache.proofs.OnCached.Calls.{left_keeps, left_more, was_keeps, was_now}
use Rattle.nofs_cache.proofs.OnCached.Writes.{rest_at}

-- what is there alone
only_in : (cells : List Cell) (c x : Cell) → Contains (only (has_cell cells c) c) x → (x ≡ c) × Contains cells c
only_in cells c x = go (has_cell cells c) refl
  where
    go : (t : Bool) → has_cell cells c ≡ t → Contains (only t c) x → (x ≡ c) × Contains cells c
    go true e (zero, low, is) = (sym is, has_cell-true cells c e)
    go true e (suc k, low, is) = absurd (omega arith)
    go false e (k, low, is) = absurd (omega arith)

same_blocks : (may : ℕ → List Cell) (old new : DiskState) (before after : List DirtyEntry)
    → WrittenBack old new before after
    → Covers may old.blocks old.may before → Covers may new.blocks new.may after
same_blocks may old new before after p cov =
    let F : ℕ → Type 0 = λ n. Covers may n new.may after in
    subst F (sym p.disk.blocks) (p.covers may old.blocks refl cov)

same_picks : (may : ℕ → List Cell) (from : ℕ) (old new : DiskState) (before after : List DirtyEntry)
    → WrittenBack old new before after
    → Covers may old.blocks old.may before
    → AtEach (λ m image. Picks may old.blocks image) from old → AtEach (λ m image. Picks may new.blocks image) from new
same_picks may from old new before after p cov at =
    let F : ℕ → Type 0 = λ n. AtEach (λ m image. Picks may n image) from new in
    subst F (sym p.disk.blocks) (p.picks may old.blocks from refl cov at)

same_within : (may : ℕ → List Cell) (old new : DiskState) → new.blocks ≡ old.blocks → IsWithin may old.blocks
    → IsWithin may new.blocks
same_within may old new same w = let F : ℕ → Type 0 = λ n. IsWithin may n in subst F (sym same) w

-- the cells that may be held after a flush
flush_within : (h : Held) (n : ℕ) → IsWithin h.may n → IsWithin (held_after_flush true h).may n
flush_within h n w =
    record { beyond = λ b c low has. w.beyond b c low (back b c has); sized = λ b c has. w.sized b c (back b c has) }
  where
    back : (b : ℕ) (c : Cell) → Contains ((held_after_flush true h).may b) c → Contains (h.may b) c
    back b c has =
        let one = only_in (h.may b) (cell_at h.now b) c has in
        let F : Cell → Type 0 = λ x. Contains (h.may b) x in
        subst F (sym one.0) one.1

-- dirty cells are written out
pub kept_writes_back : (under new first : DiskState) (past : List CacheCall) (before after : List DirtyEntry)
    → WrittenBack under new before after
    → ∥ CacheKeeps under first past before ∥₁ → ∥ CacheKeeps new first past after ∥₁
kept_writes_back under new first past before after p kept = ∥∥₁_elim kept ∥∥₁_prop (λ k. ∣ goes k ∣₁)
  where
    goes : CacheKeeps under first past before → CacheKeeps new first past after
    goes k =
        let h = held (first_held first) past in
        record {
          covers = same_blocks h.may under new before after p k.covers;
          picks = same_picks h.may (last_end first.moment past) under new before after p k.covers k.picks;
          agrees = p.agrees h.now k.agrees;
          within = same_within h.may under new p.disk.blocks k.within;
        }

flush_covers : (h : Held) (new : DiskState) (after : List DirtyEntry) → IsSettled new
    → after ≡ [] → Agrees h.now new.now after
    → Covers h.may new.blocks new.may after → Covers (held_after_flush true h).may new.blocks new.may after
flush_covers h new after settled none ag cov =
    let len : length after ≡ 0 = ap length none in
    record {
      below = λ b c low has.
          let is : c ≡ cell_at h.now b = settled b c low has
          ∙ ag.clean b (record { none = λ i in_range e. absurd (omega arith) }) in
          let F : Cell → Type 0 = λ x. Contains (h.may b) x in
          let G : Cell → Type 0 = λ x. Contains ((held_after_flush true h).may b) x in
          subst G (sym is) (only_has (h.may b) (cell_at h.now b) (subst F is (cov.below b c low has)));
      kept = λ i low. absurd (omega arith);
    }

pub kept_flush : (under new first : DiskState) (past : List CacheCall) (before after : List DirtyEntry) (from to : ℕ)
    (result : Result (Unit {0}) Failed)
    → IsDisk new → to ≡ new.moment → SettlesDirty under new before after result
    → ∥ CacheKeeps under first past before ∥₁ → ∥ CacheKeeps new first (Flush (is_ok result) from to ∷ past) after ∥₁
kept_flush under new first past before after from to (Ok u) is ends s kept = ∥∥₁_elim kept ∥∥₁_prop (λ k. ∣ goes k ∣₁)
  where
    goes : CacheKeeps under first past before → CacheKeeps new first (Flush true from to ∷ past) after
    goes k =
        let h = held (first_held first) past in
        let ag = s.writes_back.agrees h.now k.agrees in
        let cov = flush_covers h new after s.settled s.clean ag
        (same_blocks h.may under new before after s.writes_back k.covers) in
        let F : ℕ → Type 0 = λ m. AtEach (λ j image. Picks (held_after_flush true h).may new.blocks image) m new in
        record {
          covers = cov;
          picks = subst F (sym ends) (rest_at (held_after_flush true h).may new after is cov);
          agrees = ag;
          within =
              same_within (held_after_flush true h).may under new s.writes_back.disk.blocks
              (flush_within h under.blocks k.within);
        }
kept_flush under new first past before after from to (Err failed) is ends s kept =
    ∥∥₁_elim kept ∥∥₁_prop (λ k. ∣ goes k ∣₁)
  where
    goes : CacheKeeps under first past before → CacheKeeps new first (Flush false from to ∷ past) after
    goes k =
        let h = held (first_held first) past in
        let cov = same_blocks h.may under new before after s.writes_back k.covers in
        let F : ℕ → Type 0 = λ m. AtEach (λ j image. Picks h.may new.blocks image) m new in
        record {
          covers = cov;
          picks = subst F (sym ends) (rest_at h.may new after is cov);
          agrees = s.writes_back.agrees h.now k.agrees;
          within =
              same_within h.may under new s.writes_back.disk.blocks k.within;
        }

-- what the disk below may leave during a flush
flush_during : (under new first : DiskState) (past : List CacheCall) (before after : List DirtyEntry) (call : CacheCall)
    (image : List Cell)
    → WrittenBack under new before after → ∥ CacheKeeps under first past before ∥₁
    → (from to : ℕ) → from ≡ under.moment → to ≡ new.moment
    → Left new.left first.moment (Flush true from to ∷ past) new.moment (2 * length past + 1) image
    → Picks (held (first_held first) past).may under.blocks image
flush_during under new first past before after call image p kept from to begins ends left =
    let h = held (first_held first) past in
    let w = left_during new.left first.moment past (Flush true from to) new.moment image left in
    Picks-known _ _ image (∥∥₁_elim kept ∥∥₁_prop (λ k.
    let at = p.picks h.may under.blocks (last_end first.moment past) refl k.covers k.picks in
    let b = k.picks.begun in
    let low = w.low in
    let high = w.high in
    ∣ at.each w.at image (omega arith) (omega arith) w.left ∣₁))

pub cache_flushes : (under new first : DiskState) (past : List CacheCall) (before after : List DirtyEntry)
    (s t from to : ℕ)
    (result : Result (Unit {0}) Failed)
    → from ≡ under.moment → to ≡ new.moment → SettlesDirty under new before after result
    → ∥ CacheKeeps under first past before ∥₁ → IsMarked first.moment past under.moment → t + 1 ≡ s
    → Flushes (cache_state under first past before s)
    (cache_state new first (Flush (is_ok result) from to ∷ past) after t) result
cache_flushes under new first past before after s t from to (Ok u) begins ends f kept marked room =
    let h = held (first_held first) past in
    record {
      disk = cache_disk under new first past (Flush true from to ∷ past) before after s t f.writes_back.disk;
      past = cache_past_more under new first past
          (Flush true from to) before after s t f.writes_back.past begins marked;
      moment = omega arith;
      spare = room;
      now = refl;
      may = λ b c low has.
          let one = only_in (h.may b) (cell_at h.now b) c has in
          let F : Cell → Type 0 = λ x. Contains (h.may b) x in
          subst F (sym one.0) one.1;
      settled = λ b c low has. (only_in (h.may b) (cell_at h.now b) c has).0;
      was = was_now new.was first.moment past (Flush true from to) ∙ ap new.was ends
          ∙ f.was h.now (agrees_of under first past before kept);
      clean = ap (map (λ e. e.block)) f.clean;
      err = tt;
      dirty = f.writes_back.fewer;
      during = λ image left. flush_during under new first past before after
          (Flush true from to) image f.writes_back kept from to begins ends left;
      cause = tt;
      no_fault = f.no_fault;
    }
cache_flushes under new first past before after s t from to (Err failed) begins ends f kept marked room = record {
  disk = cache_disk under new first past (Flush false from to ∷ past) before after s t f.writes_back.disk;
  past = cache_past_more under new first past (Flush false from to) before after s t f.writes_back.past begins marked;
  moment = omega arith;
  spare = room;
  now = refl;
  may = λ b c low has. has;
  settled = tt;
  was = tt;
  clean = tt;
  err = refl;
  dirty = f.writes_back.fewer;
  during = λ image left. flush_during under new first past before after
      (Flush false from to) image f.writes_back kept from to begins ends left;
  cause = f.cause;
  no_fault = tt;
}

-- one dirty cell is written out
pub cache_writes_out : (under new first : DiskState) (past : List CacheCall) (before after : List DirtyEntry) (s t : ℕ)
    (result : Result (Option ℕ) Failed)
    → WrittenBack under new before after → TakesOut before after result
    → OnErr result (Rose under.faults new.faults) → OnOk result (new.faults ≡ under.faults)
    → IsMarked first.moment past under.moment → t + 1 ≡ s
    → WritesOut (cache_state under first past before s) (cache_state new first past after t) result
cache_writes_out under new first past before after s t result p out cause no_fault marked room = record {
  disk = cache_disk under new first past past before after s t p.disk;
  cells = record { now = refl; may = refl; moment = refl };
  spare = room;
  was = λ m. was_keeps under.was new.was first.moment past under.moment m p.past.was marked;
  no_more = λ m image low left.
      left_keeps new.left under.left first.moment past under.moment under.moment m image
      (λ j le l. p.past.no_more j image le l) (omega arith) marked
      (left_before new.left first.moment past new.moment under.moment m image low left);
  no_less = λ m image low left.
      left_more new.left first.moment past under.moment new.moment m image p.later
      (left_keeps under.left new.left first.moment past under.moment under.moment m image
      (λ j le l. p.past.no_less j image le l) (omega arith) marked left);
  none = none result out;
  some = some result out;
  clean = clean result out;
  err = err result out;
  cause = cause;
  no_fault = no_fault;
}
  where
    some_not : (entries : List DirtyEntry) (P : Type 0) → 0 < length entries → map (λ e. e.block) entries ≡ [] → P
    some_not entries P more e = absurd (let l = ap length e in let m = length-map entries (λ x. x.block) in omega arith)

    none : (result : Result (Option ℕ) Failed) → TakesOut before after result
        → (result ≡ Ok None) ↔ (map (λ e. e.block) before ≡ [])
    none (Ok None) out = (λ e. ap (map (λ x. x.block)) out.0, λ e. refl)
    none (Ok (Some b)) out = (λ e. cc, λ e. some_not before _ out.0 e)
    none (Err failed) out = (λ e. cc, λ e. some_not before _ out.0 e)

    some : (result : Result (Option ℕ) Failed) → TakesOut before after result
        → IfOk result
        (λ o. IfSome o (λ block. IsPermutation (block ∷ map (λ e. e.block) after) (map (λ e. e.block) before)))
    some (Ok None) out = tt
    some (Ok (Some b)) out = out.1
    some (Err failed) out = tt

    clean : (result : Result (Option ℕ) Failed) → TakesOut before after result → result ≡ Ok None
        → map (λ e. e.block) after ≡ []
    clean (Ok None) out e = ap (map (λ x. x.block)) out.1
    clean (Ok (Some b)) out e = cc
    clean (Err failed) out e = cc

    err : (result : Result (Option ℕ) Failed) → TakesOut before after result
        → OnErr result (map (λ e. e.block) after ≡ map (λ e. e.block) before)
    err (Ok o) out = tt
    err (Err failed) out = ap (map (λ x. x.block)) out.1
