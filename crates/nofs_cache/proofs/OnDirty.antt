-- Entries of dirty blocks in another order, and the order in which they are written.
use Rattle.std.proofs.Common.{◌≡◌, ℕ, ◌+◌, ◌-◌, ◌<◌, ◌≤◌, true≢false, List, length, map, take, drop, get_or}
use Rattle.std.proofs.Common.{arith, inl, inr, sym, ap, subst, eqb, eq-eqb}
use Rattle.std.proofs.Common.{◌∙◌, Err}
use Rattle.std.specs.Prelude.{Contains, IsPermutation, slice_index}
use Rattle.std.specs.List.{swap}
use Rattle.std.specs.List.Sorted.{IsNonDecreasing}
use Rattle.std.proofs.lemmas.Bool.{cases_eq, cases_lt, ne_eqb}
use Rattle.std.proofs.lemmas.Bool.Decides.{eqb_tells}
use Rattle.std.proofs.lemmas.List.{get_or_default, get_or-drop, get_or-map}
use Rattle.std.proofs.lemmas.List.{get_or-take, length-drop, length-map, length-take-le}
use Rattle.std.proofs.lemmas.List.Edits.{length-swap, swapped_from_swap}
use Rattle.std.proofs.lemmas.List.Elements.{Contains-get_or}
use Rattle.std.proofs.lemmas.List.Sorted.{Contains-permutation, IsPermutation-map, IsPermutation-sym}
use Rattle.std.proofs.lemmas.Map.Keys.{IsDistinct-from_apart, IsDistinct-IsPermutation, apart_from_distinct}
use Rattle.nofs_disk.specs.declared.Failed.{Failed}
use Rattle.nofs_disk.specs.Disk.{DiskState, Rose}
use Rattle.nofs_cache.specs.declared.dirty.cells.DirtyEntry.{DirtyEntry}
use Rattle.nofs_cache.specs.Cached.{SettlesDirty, WritesRising, WrittenBack}
use Rattle.nofs_cache.specs.Dirty.Entries.{AreAmong, AreLeft, AreSlotted, HaveOwnBlocks, IsDirtyEntryOf, IsLast}
use Rattle.nofs_cache.specs.Dirty.Entries.{IsOrder, Rises, dirty_entry_at, no_dirty_entry}

-- the slots tell the blocks apart
pub own_slotted : (slots : List ℕ) (entries : List DirtyEntry) → AreSlotted slots entries → HaveOwnBlocks entries
own_slotted slots entries s =
    record { own = λ i j i_low j_low same. sym (s.at i i_low) ∙ ap (λ b. get_or slots b 0) same ∙ s.at j j_low }

-- the entry of a block after it changed places with the last one
pub last_exchanged : (l new : List DirtyEntry) (at b : ℕ) → IsDirtyEntryOf l b at → new ≡ swap l at (length l - 1)
    → IsLast new b
last_exchanged l new at b entry is =
    let low = entry.low in
    let last = length l - 1 in
    let len : length new ≡ length l = ap length is ∙ length-swap l at last in
    let moved = swapped_from_swap l new at last no_dirty_entry low (omega arith) is in
    let end : length new - 1 ≡ last = omega arith in
    record {
      some = omega arith;
      block = ap (λ k. (dirty_entry_at new k).block) end ∙ ap (λ e. e.block) moved.1 ∙ entry.block;
    }

-- the block at a place
block_at : (entries : List DirtyEntry) (k b : ℕ) → k < length entries
    → get_or (map (λ e. e.block) entries) k b ≡ (dirty_entry_at entries k).block
block_at entries k b low = get_or-map (λ e. e.block) entries k no_dirty_entry b low

eqb_flips : (x y : ℕ) → eqb x y ≡ eqb y x
eqb_flips x y = elim (eqb_tells x y) [
  | inl same ↦ same.0 ∙ sym (eq-eqb y x (sym same.1))
  | inr differ ↦ differ.0 ∙ sym (ne_eqb y x (λ e. differ.1 (sym e)))
]

-- the blocks of entries, sorted
pub order_sorted : (entries : List DirtyEntry) (order : List ℕ) → HaveOwnBlocks entries
    → IsPermutation (map (λ e. e.block) entries) order → IsNonDecreasing order → IsOrder entries order
order_sorted entries order is same sorted =
    let blocks = map (λ e. e.block) entries in
    let long : length blocks ≡ length entries = length-map entries (λ e. e.block) in
    let apart = IsDistinct-from_apart eqb blocks (λ i j d before low.
    ne_eqb (get_or blocks i d) (get_or blocks j d)
    (λ e. let i_at = block_at entries i d (omega arith) in
    let j_at = block_at entries j d (omega arith) in
    let one : i ≡ j = is.own i j (omega arith) (omega arith) (sym i_at ∙ e ∙ j_at) in omega arith)) in
    let distinct = IsDistinct-IsPermutation eqb eqb_flips blocks order same apart in
    record {
      same = same;
      rises = record {
        above = λ i j before low.
            let most = sorted i j 0 (omega arith) low in
            let differ = apart_from_distinct eqb order i j 0 distinct before low in
            elim (cases_eq (get_or order i 0) (get_or order j 0)) [
              | inl equal ↦ absurd (true≢false (sym (eq-eqb _ _ equal) ∙ differ))
              | inr other ↦ omega arith
            ];
      };
    }

-- what stands behind a place of an order
pub behind : (order : List ℕ) (k m b : ℕ) → k + m < length order → get_or order (k + m) b ≡ b
    → Contains (drop k order) b
behind order k m b low is =
    let len = length-drop k order in (m, omega arith, get_or-drop k order m b ∙ is)

-- and what is behind a place stands in it
pub from_behind : (order : List ℕ) (k b : ℕ) → Contains (drop k order) b
    → (m : ℕ) × (k + m < length order) × (get_or order (k + m) b ≡ b)
from_behind order k b (m, low, is) =
    let len = length-drop k order in (m, omega arith, sym (get_or-drop k order m b) ∙ is)

pub left_start : (entries : List DirtyEntry) (order : List ℕ) → IsOrder entries order → AreLeft entries order 0
left_start entries order is = record {
  listed = λ b has. Contains-permutation _ _ b is.same has;
  dirty = λ b has. Contains-permutation _ _ b (IsPermutation-sym _ _ is.same) has;
}

-- another order of the entries leaves what is left
pub left_reordered : (xs ys : List DirtyEntry) (order : List ℕ) (place : ℕ) → IsPermutation xs ys
    → AreLeft xs order place → AreLeft ys order place
left_reordered xs ys order place same left =
    let blocks = IsPermutation-map (λ e. e.block) xs ys same in
    record {
      listed = λ b has. left.listed b (Contains-permutation _ _ b (IsPermutation-sym _ _ blocks) has);
      dirty = λ b has. Contains-permutation _ _ b blocks (left.dirty b has);
    }

-- the block at a place is left
pub left_here : (entries : List DirtyEntry) (order : List ℕ) (place b : ℕ) → place < length order
    → b ≡ slice_index order place → AreLeft entries order place → Contains (map (λ e. e.block) entries) b
left_here entries order place b low is left =
    let F : ℕ → Type 0 = λ m. get_or order m b ≡ b in
    let here : place ≡ place + 0 = omega arith in
    left.dirty b (behind order place 0 b (omega arith) (subst F here (get_or_default order place b 0 low ∙ sym is)))

-- the block at a place of the order has an entry
pub ordered : (entries : List DirtyEntry) (order : List ℕ) (place : ℕ) → IsOrder entries order → place < length order
    → Contains (map (λ e. e.block) entries) (slice_index order place)
ordered entries order place is low = Contains-permutation _ _ (slice_index order place)
    (IsPermutation-sym _ _ is.same) (Contains-get_or order place 0 low)

-- and is one of the disk's
pub ordered_low : (slots : List ℕ) (entries : List DirtyEntry) (order : List ℕ) (place blocks : ℕ)
    → AreSlotted slots entries → length slots ≤ blocks → IsOrder entries order → place < length order
    → slice_index order place < blocks
ordered_low slots entries order place blocks slotted few is low =
    let h = ordered entries order place is low in
    let long = length-map entries (λ e. e.block) in
    let i_low = h.1 in
    let at : (dirty_entry_at entries h.0).block ≡ slice_index order place =
    sym (block_at entries h.0 (slice_index order place) (omega arith)) ∙ h.2 in
    let within = slotted.low h.0 (omega arith) in
    omega arith

-- what stands at a place stands at an equal one
moves : (order : List ℕ) (i j b : ℕ) → i ≡ j → get_or order i b ≡ b → get_or order j b ≡ b
moves order i j b same is = ap (λ m. get_or order m b) (sym same) ∙ is

-- the last entry is taken, which is that of the block at the place
module _ (entries after : List DirtyEntry) (order : List ℕ) (place b : ℕ) (own : HaveOwnBlocks entries)
    (rises : Rises order) (low : place < length order) (is : b ≡ slice_index order place) (last : IsLast entries b)
    (left : AreLeft entries order place) (cut : after ≡ take (length entries - 1) entries) where
  taken_long : length after ≡ length entries - 1
  taken_long = ap length cut ∙ length-take-le (length entries - 1) entries (omega arith)

  all_long : length (map (λ e. e.block) entries) ≡ length entries
  all_long = length-map entries (λ e. e.block)

  -- the block at a place that is left
  taken_at : (k x : ℕ) → k < length after → get_or (map (λ e. e.block) after) k x ≡ (dirty_entry_at entries k).block
  taken_at k x in_range = block_at after k x in_range
      ∙ ap (λ l. (dirty_entry_at l k).block) cut
      ∙ ap (λ e. e.block)
      (get_or-take (length entries - 1) entries k no_dirty_entry (let len = taken_long in omega arith))

  next_listed : (x : ℕ) → Contains (map (λ e. e.block) after) x → Contains (drop (place + 1) order) x
  next_listed x (i, in_range, here) =
      let some = last.some in
      let len = taken_long in
      let all = all_long in
      let fewer = length-map after (λ e. e.block) in
      let at : (dirty_entry_at entries i).block ≡ x = sym (taken_at i x (omega arith)) ∙ here in
      let h = from_behind order place x
      (left.listed x (i, omega arith, block_at entries i x (omega arith) ∙ at)) in
      elim (cases_eq h.0 0) [
        | inl none ↦
            let same : x ≡ b = sym (moves order (place + h.0) place x (omega arith) h.2)
            ∙ get_or_default order place x 0 low ∙ sym is in
            let one : i ≡ length entries - 1 = own.own i (length entries - 1) (omega arith) (omega arith)
            (at ∙ same ∙ sym last.block) in
            absurd (omega arith)
        | inr more ↦
            let in_order = h.1 in
            behind order (place + 1) (h.0 - 1) x (omega arith)
            (moves order (place + h.0) (place + 1 + (h.0 - 1)) x (omega arith) h.2)
      ]

  next_dirty : (x : ℕ) → Contains (drop (place + 1) order) x → Contains (map (λ e. e.block) after) x
  next_dirty x has =
      let len = taken_long in
      let all = all_long in
      let fewer = length-map after (λ e. e.block) in
      let h = from_behind order (place + 1) x has in
      let in_order = h.1 in
      let there = left.dirty x (behind order place (h.0 + 1) x (omega arith)
      (moves order (place + 1 + h.0) (place + (h.0 + 1)) x (omega arith) h.2)) in
      let in_range = there.1 in
      let at : (dirty_entry_at entries there.0).block ≡ x =
      sym (block_at entries there.0 x (omega arith)) ∙ there.2 in
      elim (cases_eq there.0 (length entries - 1)) [
        | inl end ↦
            let here : x ≡ slice_index order place = sym at ∙ ap (λ k. (dirty_entry_at entries k).block) end
            ∙ last.block ∙ is in
            let later : get_or order (place + 1 + h.0) 0 ≡ x =
            get_or_default order (place + 1 + h.0) 0 x (omega arith) ∙ h.2 in
            let above = rises.above place (place + 1 + h.0) (omega arith) (omega arith) in
            absurd (omega arith)
        | inr other ↦ (there.0, omega arith, taken_at there.0 x (omega arith) ∙ at)
      ]

  pub left_next : AreLeft after order (place + 1)
  left_next = record { listed = next_listed; dirty = next_dirty }

-- a front of entries in another order is among them
pub front_among : (xs ys front : List DirtyEntry) → IsPermutation xs ys → front ≡ take (length ys - 1) ys
    → AreAmong front xs
front_among xs ys front same cut = record {
  each = λ e has.
      let F : List DirtyEntry → Type 0 = λ l. Contains l e in
      let h = subst F cut has in
      let len = length-take-le (length ys - 1) ys (omega arith) in
      let low = h.1 in
      Contains-permutation ys xs e (IsPermutation-sym xs ys same)
      (h.0, omega arith, sym (get_or-take (length ys - 1) ys h.0 e (omega arith)) ∙ h.2);
}

-- what was written is below what is left
pub rising_left : (before after : List DirtyEntry) (order : List ℕ) (place : ℕ) → IsOrder before order
    → AreLeft after order place → WritesRising (map (λ e. e.block) before) (map (λ e. e.block) after)
rising_left before after order place is left = record {
  above = λ b c has had gone.
      let p = Contains-permutation _ _ c is.same had in
      let h = from_behind order place b (left.listed b has) in
      let j_low = p.1 in
      let i_low = h.1 in
      let at_c : get_or order p.0 0 ≡ c = get_or_default order p.0 0 c p.1 ∙ p.2 in
      let at_b : get_or order (place + h.0) 0 ≡ b = get_or_default order (place + h.0) 0 b h.1 ∙ h.2 in
      elim (cases_lt p.0 place) [
        | inl early ↦ let less = is.rises.above p.0 (place + h.0) (omega arith) (omega arith) in omega arith
        | inr late ↦
            let F : ℕ → Type 0 = λ m. get_or order m c ≡ c in
            let same : p.0 ≡ place + (p.0 - place) = omega arith in
            absurd (gone (left.dirty c (behind order place (p.0 - place) c (omega arith) (subst F same p.2))))
      ];
}

-- a write below failed
pub settles_no_more : (old new : DiskState) (before after : List DirtyEntry) (failed : Failed)
    → WrittenBack old new before after → Rose old.faults new.faults
    → SettlesDirty old new before after (Err failed)
settles_no_more old new before after failed writes_back rose = record {
  writes_back = writes_back;
  clean = tt;
  settled = tt;
  was = λ now ag. tt;
  cause = rose;
  no_fault = tt;
}
