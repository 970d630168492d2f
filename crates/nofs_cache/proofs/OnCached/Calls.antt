-- What the calls of a cached disk do.
use Rattle.std.proofs.Common.{◌≡◌, ℕ, zero, suc, ◌+◌, ◌*◌, ◌<◌, ◌≤◌, true, false, List, [], ◌∷◌, length, map, get_or}
use Rattle.std.proofs.Common.{arith, inl, inr, refl, sym, ap, subst}
use Rattle.std.proofs.Common.{◌∙◌, Result, Ok, Err}
use Rattle.std.specs.Prelude.{Contains, OnOk, eqb}
use Rattle.std.proofs.Math.Logic.{∥∥₁_elim, ∥∥₁_prop}
use Rattle.std.proofs.lemmas.Bool.{cases_eq, eq-eqb, ne_eqb}
use Rattle.std.proofs.lemmas.List.{get_or-map, length-map}
use mathlib.Core.Bool.{Bool-set}
use native.Mathlib.Nat.{ℕ_set}
use Rattle.nofs_disk.specs.declared.Failed.{Failed}
use Rattle.nofs_disk.specs.declared.tag.Cell.{Cell}
use Rattle.nofs_disk.specs.Cells.{same_cell, same_cell-refl, same_cell-true}
use Rattle.nofs_disk.specs.Chains.{IsSameDisk-refl, KeepsPast-refl}
use Rattle.nofs_disk.specs.Disk.{DiskState, IsDisk, IsSameDisk, KeepsCells, KeepsPast, MakesReady, Picks, Reads}
use Rattle.nofs_disk.specs.Disk.{StaysButFaults, cell_at}
use Rattle.nofs_disk.specs.Moments.{AtEach, AtEach-stays}
use Rattle.nofs_disk.specs.Held.{IsWithin}
use Rattle.nofs_cache.specs.declared.dirty.cells.DirtyEntry.{DirtyEntry}
use Rattle.nofs_cache.specs.declared.dirty.past.CacheCall.{CacheCall}
use Rattle.nofs_cache.specs.declared.dirty.past.CacheCall.TheVariants.{Flush}
use Rattle.nofs_cache.specs.Cached.{Agrees, Covers, IsMarked, Left, LeftWithin, began, cache_state, ended_at, held}
use Rattle.nofs_cache.specs.Cached.{last_end, was}
use Rattle.nofs_cache.specs.Dirty.Entries.{HasCell, IsClean, dirty_entry_at, no_dirty_entry}
use Rattle.nofs_cache.specs.Laws.{CacheKeeps, Left-later, first_held}

marked_tail : (first : ℕ) (call : CacheCall) (past : List CacheCall) (u : ℕ) → IsMarked first (call ∷ past) u
    → IsMarked first past u
marked_tail first call past u m = record {
  start = m.start;
  begins = λ k low. m.begins (suc k) (omega arith);
  ends = λ k low. m.ends (suc k) (omega arith);
}

within_keeps : (l l' : ℕ → List Cell → Type 0) (from to u : ℕ) (image : List Cell)
    → ((j : ℕ) → j ≤ u → l j image → l' j image) → to ≤ u
    → LeftWithin l from to image → LeftWithin l' from to image
within_keeps l l' from to u image goes low w =
    record { at = w.at; low = w.low; high = w.high; left = goes w.at (let h = w.high in omega arith) w.left }

-- what may be left, where the disk below may leave the same up to a moment
pub left_keeps : (l l' : ℕ → List Cell → Type 0) (first : ℕ) (past : List CacheCall) (to u m : ℕ) (image : List Cell)
    → ((j : ℕ) → j ≤ u → l j image → l' j image) → to ≤ u → IsMarked first past u
    → Left l first past to m image → Left l' first past to m image
left_keeps l l' first [] to u m image goes low marked (at, left) =
    (at, within_keeps l l' first to u image goes low left)
left_keeps l l' first (call ∷ past) to u m image goes low marked (inl (at, left)) =
    inl (at, within_keeps l l' (ended_at call) to u image goes low left)
left_keeps l l' first (call ∷ past) to u m image goes low marked (inr (inl (at, left))) =
    inr (inl (at, within_keeps l l' (began call) (ended_at call) u image goes (marked.ends 0 (omega arith)) left))
left_keeps l l' first (call ∷ past) to u m image goes low marked (inr (inr left)) =
    inr (inr (left_keeps l l' first past (began call) u m image goes (marked.begins 0 (omega arith))
    (marked_tail first call past u marked) left))

-- more may be left at a later moment of the disk below
pub left_more : (l : ℕ → List Cell → Type 0) (first : ℕ) (past : List CacheCall) (to more m : ℕ)
    (image : List Cell) → to ≤ more
    → Left l first past to m image → Left l first past more m image
left_more l first [] to more m image le (at, left) =
    (at, record { at = left.at; low = left.low; high = (let h = left.high in omega arith); left = left.left })
left_more l first (call ∷ past) to more m image le (inl (at, left)) =
    inl (at, record { at = left.at; low = left.low; high = (let h = left.high in omega arith); left = left.left })
left_more l first (call ∷ past) to more m image le (inr rest) = inr rest

-- but not at earlier moments of the cached disk
pub left_before : (l : ℕ → List Cell → Type 0) (first : ℕ) (past : List CacheCall) (to other m : ℕ) (image : List Cell)
    → m < 2 * length past
    → Left l first past to m image → Left l first past other m image
left_before l first [] to other m image low left = absurd (omega arith)
left_before l first (call ∷ past) to other m image low (inl (at, left)) = absurd (omega arith)
left_before l first (call ∷ past) to other m image low (inr rest) = inr rest

pub was_keeps : (w w' : ℕ → List Cell) (first : ℕ) (past : List CacheCall) (u m : ℕ) → ((j : ℕ) → j ≤ u → w' j ≡ w j)
    → IsMarked first past u
    → was w' first past m ≡ was w first past m
was_keeps w w' first [] u m goes marked = goes first marked.start
was_keeps w w' first (call ∷ past) u m goes marked = elim (cases_eq m (2 * length (call ∷ past))) [
  | inl same ↦
      let e : eqb m (2 * length (call ∷ past)) ≡ true = eq-eqb m (2 * length (call ∷ past)) same in
      rw e (goes (ended_at call) (marked.ends 0 (omega arith)))
  | inr other ↦
      let e : eqb m (2 * length (call ∷ past)) ≡ false = ne_eqb m (2 * length (call ∷ past)) other in
      rw e (was_keeps w w' first past u m goes (marked_tail first call past u marked))
]

was_before : (w : ℕ → List Cell) (first : ℕ) (past : List CacheCall) (call : CacheCall) (m : ℕ) → m ≤ 2 * length past
    → was w first (call ∷ past) m ≡ was w first past m
was_before w first past call m low = rw (ne_eqb m (2 * length (call ∷ past)) (λ e. omega arith)) refl

pub was_now : (w : ℕ → List Cell) (first : ℕ) (past : List CacheCall) (call : CacheCall)
    → was w first (call ∷ past) (2 * length (call ∷ past)) ≡ w (ended_at call)
was_now w first past call = rw (eq-eqb (2 * length (call ∷ past)) (2 * length (call ∷ past)) refl) refl

-- a call that makes no moment
pub cache_past : (under new first : DiskState) (past : List CacheCall) (before after : List DirtyEntry) (s t : ℕ)
    → KeepsPast under new
    → new.moment ≡ under.moment → IsMarked first.moment past under.moment
    → KeepsPast (cache_state under first past before s) (cache_state new first past after t)
cache_past under new first past before after s t keeps same marked = record {
  was = λ m low. was_keeps under.was new.was first.moment past under.moment m keeps.was marked;
  no_more = λ m image low left.
      let F : ℕ → Type 0 = λ k. Left new.left first.moment past k m image in
      left_keeps new.left under.left first.moment past under.moment under.moment m image
      (λ j le l. keeps.no_more j image le l) (omega arith) marked
      (subst F same left);
  no_less = λ m image low left.
      let F : ℕ → Type 0 = λ k. Left new.left first.moment past k m image in
      subst F (sym same) (left_keeps under.left new.left first.moment past under.moment under.moment m image
      (λ j le l. keeps.no_less j image le l)
      (omega arith) marked left);
}

-- a call that makes two
pub cache_past_more : (under new first : DiskState) (past : List CacheCall) (call : CacheCall)
    (before after : List DirtyEntry) (s t : ℕ)
    → KeepsPast under new → began call ≡ under.moment → IsMarked first.moment past under.moment
    → KeepsPast (cache_state under first past before s) (cache_state new first (call ∷ past) after t)
cache_past_more under new first past call before after s t keeps begins marked = record {
  was = λ m low. was_before new.was first.moment past call m low
      ∙ was_keeps under.was new.was first.moment past under.moment m keeps.was marked;
  no_more = λ m image low left. more m image low left;
  no_less = λ m image low left.
      let F : ℕ → Type 0 = λ k. Left new.left first.moment past k m image in
      inr (inr (subst F (sym begins) (left_keeps under.left new.left first.moment past under.moment under.moment m image
      (λ j le l. keeps.no_less j image le l) (omega arith) marked left)));
}
  where
    more : (m : ℕ) (image : List Cell) → m ≤ 2 * length past
        → Left new.left first.moment (call ∷ past) new.moment m image
        → Left under.left first.moment past under.moment m image
    more m image low (inl (at, left)) = absurd (omega arith)
    more m image low (inr (inl (at, left))) = absurd (omega arith)
    more m image low (inr (inr left)) =
        let F : ℕ → Type 0 = λ k. Left new.left first.moment past k m image in
        left_keeps new.left under.left first.moment past under.moment under.moment m image
        (λ j le l. keeps.no_more j image le l) (omega arith) marked
        (subst F begins left)

pub marked_later : (first : ℕ) (past : List CacheCall) (u v : ℕ) → u ≤ v → IsMarked first past u → IsMarked first past v
marked_later first past u v le m = record {
  start = let e = m.start in omega arith;
  begins = λ k low. let e = m.begins k low in omega arith;
  ends = λ k low. let e = m.ends k low in omega arith;
}

pub marked_more : (first : ℕ) (past : List CacheCall) (call : CacheCall) (u : ℕ)
    → began call ≤ u → ended_at call ≤ u → IsMarked first past u
    → IsMarked first (call ∷ past) u
marked_more first past call u b e m = record { start = m.start; begins = begins; ends = ends }
  where
    begins : (k : ℕ) → k < length (call ∷ past) → began (get_or (call ∷ past) k (Flush false 0 0)) ≤ u
    begins zero low = b
    begins (suc k) low = m.begins k (omega arith)

    ends : (k : ℕ) → k < length (call ∷ past) → ended_at (get_or (call ∷ past) k (Flush false 0 0)) ≤ u
    ends zero low = e
    ends (suc k) low = m.ends k (omega arith)

-- the images of the moment during the last call
pub left_during : (l : ℕ → List Cell → Type 0) (first : ℕ) (past : List CacheCall) (call : CacheCall) (to : ℕ)
    (image : List Cell)
    → Left l first (call ∷ past) to (2 * length past + 1) image → LeftWithin l (began call) (ended_at call) image
left_during l first past call to image (inl (at, left)) = absurd (omega arith)
left_during l first past call to image (inr (inl (at, left))) = left
left_during l first past call to image (inr (inr left)) = absurd (none l first past (began call) image left)
  where
    none : (l : ℕ → List Cell → Type 0) (first : ℕ) (past : List CacheCall) (to : ℕ) (image : List Cell)
        → Left l first past to (2 * length past + 1) image → ⊥
    none l first past to image left = Left-later l first past to (2 * length past + 1) image (omega arith) left

-- facts that are known to have a proof
pub cell_known : (a b : Cell) → ∥ a ≡ b ∥₁ → a ≡ b
cell_known a b known =
    same_cell-true a b (∥∥₁_elim known (Bool-set _ _)
    (λ e. let F : Cell → Type 0 = λ x. same_cell a x ≡ true in subst F e (same_cell-refl a)))

pub Agrees-known : (now below : List Cell) (entries : List DirtyEntry) → ∥ Agrees now below entries ∥₁
    → Agrees now below entries
Agrees-known now below entries known = record {
  len = ∥∥₁_elim known (ℕ_set _ _) (λ a. a.len);
  kept = λ i low b_low. cell_known _ _ (∥∥₁_elim known ∥∥₁_prop (λ a. ∣ a.kept i low b_low ∣₁));
  clean = λ b clean. cell_known _ _ (∥∥₁_elim known ∥∥₁_prop (λ a. ∣ a.clean b clean ∣₁));
}

pub agrees_of : (under first : DiskState) (past : List CacheCall) (entries : List DirtyEntry)
    → ∥ CacheKeeps under first past entries ∥₁
    → Agrees (held (first_held first) past).now under.now entries
agrees_of under first past entries kept = Agrees-known _ _ _ (∥∥₁_elim kept ∥∥₁_prop (λ k. ∣ k.agrees ∣₁))

-- the disk below makes no moment
pub kept_stays : (under new first : DiskState) (past : List CacheCall) (entries : List DirtyEntry) → KeepsPast under new
    → KeepsCells under new
    → IsSameDisk under new → ∥ CacheKeeps under first past entries ∥₁ → ∥ CacheKeeps new first past entries ∥₁
kept_stays under new first past entries keeps cells disk kept = ∥∥₁_elim kept ∥∥₁_prop (λ k. ∣ goes k ∣₁)
  where
    goes : CacheKeeps under first past entries → CacheKeeps new first past entries
    goes k =
        let h = held (first_held first) past in
        let F : ℕ → Type 0 = λ n. Covers h.may n under.may entries in
        let G : (ℕ → List Cell) → Type 0 = λ may. Covers h.may new.blocks may entries in
        let H : ℕ → Type 0 = λ n. AtEach (λ m image. Picks h.may n image) (last_end first.moment past) new in
        let J : List Cell → Type 0 = λ l. Agrees h.now l entries in
        let K : ℕ → Type 0 = λ n. IsWithin h.may n in
        record {
          covers = subst G (sym cells.may) (subst F (sym disk.blocks) k.covers);
          picks = subst H (sym disk.blocks)
              (AtEach-stays (λ m image. Picks h.may under.blocks image) (last_end first.moment past)
              under new keeps cells.moment k.picks);
          agrees = subst J (sym cells.now) k.agrees;
          within = subst K (sym disk.blocks) k.within;
        }

pub cache_disk : (under new first : DiskState) (past next : List CacheCall) (before after : List DirtyEntry) (s t : ℕ)
    → IsSameDisk under new
    → IsSameDisk (cache_state under first past before s) (cache_state new first next after t)
cache_disk under new first past next before after s t disk =
    record { blocks = disk.blocks; tells = disk.tells; holds_back = refl; faults = disk.faults }

pub cache_stays : (under new first : DiskState) (past : List CacheCall) (entries : List DirtyEntry) (s : ℕ)
    → StaysButFaults under new
    → IsMarked first.moment past under.moment
    → StaysButFaults (cache_state under first past entries s) (cache_state new first past entries s)
cache_stays under new first past entries s stays marked = record {
  disk = cache_disk under new first past past entries entries s s stays.disk;
  past = cache_past under new first past entries entries s s stays.past stays.cells.moment marked;
  cells = record { now = refl; may = refl; moment = refl };
  dirty = refl;
  spare = refl;
}

pub cache_ready : {E : Type 0} (under new first : DiskState) (past : List CacheCall)
    (before after : List DirtyEntry) (s t n : ℕ)
    {result : Result (Unit {0}) E} {m : ℕ} {made : Result (Unit {0}) E} → MakesReady under new m made → after ≡ before
    → IsMarked first.moment past under.moment → s ≤ t → OnOk result (n ≤ t)
    → MakesReady (cache_state under first past before s) (cache_state new first past after t) n result
cache_ready under new first past before after s t n r same marked more room = record {
  disk = cache_disk under new first past past before after s t r.disk;
  past = cache_past under new first past before after s t r.past r.cells.moment marked;
  cells = record { now = refl; may = refl; moment = refl };
  dirty = ap (map (λ e. e.block)) same;
  no_fault = r.no_fault;
  no_less = more;
  room = room;
}

-- a read of a dirty block
pub reads_kept : (under first : DiskState) (past : List CacheCall) (entries : List DirtyEntry) (s block : ℕ)
    (c into : Cell) → HasCell entries block c
    → into ≡ c → block < under.blocks → IsDisk (cache_state under first past entries s)
    → ∥ CacheKeeps under first past entries ∥₁
    → IsMarked first.moment past under.moment
    → Reads (cache_state under first past entries s) (cache_state under first past entries s) block into (Ok tt)
reads_kept under first past entries s block c into has same low is kept marked =
    let ag = agrees_of under first past entries kept in
    let now = (held (first_held first) past).now in
    let F : ℕ → Type 0 = λ b. b < length now → (dirty_entry_at entries has.at).cell ≡ cell_at now b in
    record {
      stays = record {
        disk = IsSameDisk-refl (cache_state under first past entries s);
        past = KeepsPast-refl (cache_state under first past entries s);
        cells = record { now = refl; may = refl; moment = refl };
        dirty = refl;
        spare = refl;
      };
      cell = λ tells. same ∙ sym has.cell
          ∙ subst F has.is.block (ag.kept has.at has.is.low) (let e = is.whole tells in omega arith);
      cause = tt;
      no_fault = refl;
    }

-- a block without an entry is not dirty
pub clean_not_dirty : (entries : List DirtyEntry) (block : ℕ) → IsClean entries block
    → Contains (map (λ e. e.block) entries) block → ⊥
clean_not_dirty entries block clean (i, low, is) =
    let in_range : i < length entries = let l = length-map entries (λ e. e.block) in omega arith in
    clean.none i in_range (sym (get_or-map (λ e. e.block) entries i no_dirty_entry block in_range) ∙ is)

-- a block that is not dirty has no entry
pub not_dirty_clean : (entries : List DirtyEntry) (block : ℕ) → (Contains (map (λ e. e.block) entries) block → ⊥)
    → IsClean entries block
not_dirty_clean entries block none = record {
  none = λ i low is. none (
    i,
    (let l = length-map entries (λ e. e.block) in omega arith),
    get_or-map (λ e. e.block) entries i no_dirty_entry block low ∙ is,
  );
}

-- a read of another block
pub reads_below : (under new first : DiskState) (past : List CacheCall) (entries : List DirtyEntry)
    (s block : ℕ) (into : Cell)
    (result : Result (Unit {0}) Failed) → IsClean entries block → Reads under new block into result
    → ∥ CacheKeeps under first past entries ∥₁
    → IsMarked first.moment past under.moment
    → Reads (cache_state under first past entries s) (cache_state new first past entries s) block into result
reads_below under new first past entries s block into (Ok u) clean r kept marked = record {
  stays = cache_stays under new first past entries s r.stays marked;
  cell = λ tells. r.cell tells ∙ (agrees_of under first past entries kept).clean block clean;
  cause = tt;
  no_fault = r.no_fault;
}
reads_below under new first past entries s block into (Err failed) clean r kept marked = record {
  stays = cache_stays under new first past entries s r.stays marked;
  cell = tt;
  cause = r.cause;
  no_fault = tt;
}

pub kept_same : (under first : DiskState) (past : List CacheCall) (before after : List DirtyEntry)
    → after ≡ before → ∥ CacheKeeps under first past before ∥₁
    → ∥ CacheKeeps under first past after ∥₁
kept_same under first past before after same kept =
    let F : List DirtyEntry → Type 0 = λ l. ∥ CacheKeeps under first past l ∥₁ in
    subst F (sym same) kept

-- nothing was written yet
pub kept_begins : (under : DiskState) (entries : List DirtyEntry) {first : DiskState} {past : List CacheCall}
    → IsDisk under → entries ≡ []
    → first ≡ under → past ≡ [] → ∥ CacheKeeps under first past entries ∥₁
kept_begins under entries is none given none_made =
    let len : length entries ≡ 0 = ap length none in
    rw (given, none_made) (∣ record {
      covers = record { below = λ b c low has. has; kept = λ i low. absurd (omega arith) };
      picks = record {
        begun = omega arith;
        each = λ m image low high left.
            let F : ℕ → Type 0 = λ k. under.left k image → Picks under.may under.blocks image in
            let e : m ≡ under.moment = omega arith in
            subst F (sym e) (is.at_rest image) left;
      };
      agrees = record { len = refl; kept = λ i low. absurd (omega arith); clean = λ b clean. refl };
      within = record { beyond = is.beyond; sized = is.sized };
    } ∣₁)
