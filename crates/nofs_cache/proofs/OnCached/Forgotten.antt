-- Dirty blocks whose cells the disk below has, and what is known once they are clean.
use Rattle.std.proofs.Common.{◌≡◌, ◌≢◌, ◌⊎◌, ℕ, zero, suc, ◌+◌, ◌-◌, ◌<◌, ◌≤◌, List, [], ◌∷◌, length, map, set}
use Rattle.std.proofs.Common.{arith, get_or, inl, inr, sym, ap, subst, ◌∙◌, Result, Ok, Err}
use Rattle.std.specs.Prelude.{Contains, slice_index}
use Rattle.std.proofs.lemmas.Bool.{cases_eq, cases_lt}
use Rattle.std.proofs.lemmas.List.{get_or-map, get_or-set_other, get_or-set_same, get_or_default, length-drop}
use Rattle.std.proofs.lemmas.List.{length-map, length-set}
use Rattle.std.proofs.lemmas.List.Elements.{Contains-get_or}
use Rattle.std.proofs.lemmas.List.Sorted.{Contains-permutation}
use Rattle.std.proofs.Math.ListN.{get_or-eq_default}
use Rattle.nofs_disk.specs.declared.Failed.{Failed}
use Rattle.nofs_disk.specs.declared.tag.Cell.{Cell}
use Rattle.nofs_disk.specs.Chains.{IsSameDisk-refl, KeepsPast-refl}
use Rattle.nofs_disk.specs.Disk.{DiskState, IsDisk, cell_at, no_cell}
use Rattle.nofs_cache.specs.declared.dirty.cells.DirtyEntry.{DirtyEntry}
use Rattle.nofs_cache.specs.Cached.{Agrees, AreBelow, WritesDirty, WrittenBack}
use Rattle.nofs_cache.specs.Dirty.Entries.{AreAmong, AreLeft, HaveOwnBlocks, IsClean, IsOrder}
use Rattle.nofs_cache.specs.Dirty.Entries.{dirty_entry_at, no_dirty_entry}
use Rattle.nofs_cache.proofs.OnCached.Calls.{clean_not_dirty}
use Rattle.nofs_cache.proofs.OnCached.WritesBelow.{writes_stay}
use Rattle.nofs_cache.proofs.OnDirty.{behind}

-- a write below leaves its entry, and the others
pub dirty_stays : (old new : DiskState) (entries : List DirtyEntry) (b : ℕ) (result : Result (Unit {0}) Failed)
    → WritesDirty old new entries b result → IsDisk new → WrittenBack old new entries entries
dirty_stays old new entries b result w is = writes_stay old new entries w.at result w.is.low is w.writes

-- cells below after the cell of an entry was set there
set_below : (below : List Cell) (entries : List DirtyEntry) (order : List ℕ) (places more i : ℕ)
    → HaveOwnBlocks entries → i < length entries
    → ((k : ℕ) → k < more → (k < places) ⊎ (slice_index order k ≡ (dirty_entry_at entries i).block))
    → AreBelow below entries order places
    → AreBelow (set below (dirty_entry_at entries i).block (dirty_entry_at entries i).cell) entries order more
set_below below entries order places more i own low here are =
    let block = (dirty_entry_at entries i).block in
    let cell = (dirty_entry_at entries i).cell in
    let len = length-set below block cell in
    record {
      each = λ j k j_low k_low at in_range. elim (cases_eq (dirty_entry_at entries j).block block) [
        | inl same ↦
            let one : j ≡ i = own.own j i j_low low same in
            let F : ℕ → Type 0 = λ m. cell_at (set below block cell) (dirty_entry_at entries m).block
            ≡ (dirty_entry_at entries m).cell in
            subst F (sym one) (get_or-set_same below block cell no_cell (omega arith))
        | inr other ↦
            let there : cell_at below (dirty_entry_at entries j).block ≡ (dirty_entry_at entries j).cell =
            elim (here k k_low) [
              | inl early ↦ are.each j k j_low early at (omega arith)
              | inr is ↦ absurd (other (sym at ∙ is))
            ] in
            get_or-set_other below block (dirty_entry_at entries j).block cell no_cell other ∙ there
      ];
    }

-- the cell of the block at a place was written
pub below_next : (old new : DiskState) (entries : List DirtyEntry) (order : List ℕ) (place : ℕ)
    (result : Result (Unit {0}) Failed) (u : Unit {0}) → HaveOwnBlocks entries → result ≡ Ok u
    → WritesDirty old new entries (slice_index order place) result
    → AreBelow old.now entries order place → AreBelow new.now entries order (place + 1)
below_next old new entries order place (Ok v) u own ok w are =
    let F : List Cell → Type 0 = λ l. AreBelow l entries order (place + 1) in
    subst F (sym w.writes.ok)
    (set_below old.now entries order place (place + 1) w.at own w.is.low
    (λ k k_low. elim (cases_eq k place) [
      | inl same ↦ inr (ap (slice_index order) same ∙ sym w.is.block)
      | inr other ↦ inl (omega arith)
    ]) are)
below_next old new entries order place (Err failed) u own ok w are = absurd (cc (ok))

-- or was not
pub below_stays : (old new : DiskState) (entries : List DirtyEntry) (order : List ℕ) (place : ℕ)
    (result : Result (Unit {0}) Failed) (failed : Failed) → HaveOwnBlocks entries → result ≡ Err failed
    → WritesDirty old new entries (slice_index order place) result
    → AreBelow old.now entries order place → AreBelow new.now entries order place
below_stays old new entries order place (Ok v) failed own err w are = absurd (cc (err))
below_stays old new entries order place (Err f) failed own err w are =
    let F : List Cell → Type 0 = λ l. AreBelow l entries order place in
    elim w.writes.err [
      | inl stays ↦ subst F (sym stays) are
      | inr taken ↦ subst F (sym taken)
          (set_below old.now entries order place place w.at own w.is.low (λ k k_low. inl k_low) are)
    ]

-- a write that succeeded added no fault
pub dirty_no_fault : (old new : DiskState) (entries : List DirtyEntry) (b : ℕ) (result : Result (Unit {0}) Failed)
    (u : Unit {0}) → result ≡ Ok u → WritesDirty old new entries b result → new.faults ≡ old.faults
dirty_no_fault old new entries b (Ok v) u ok w = w.writes.no_fault
dirty_no_fault old new entries b (Err failed) u ok w = absurd (cc (ok))

-- a block has an entry, or is clean
entry_or_clean : (entries : List DirtyEntry) (b : ℕ)
    → ((i : ℕ) × (i < length entries) × ((dirty_entry_at entries i).block ≡ b)) ⊎ IsClean entries b
entry_or_clean [] b = inr (record { none = λ i low is. absurd (omega arith) })
entry_or_clean (e ∷ entries) b = elim (cases_eq e.block b) [
  | inl same ↦ inl (0, omega arith, same)
  | inr other ↦ elim (entry_or_clean entries b) [
    | inl (i, low, is) ↦ inl (suc i, omega arith, is)
    | inr clean ↦ inr (record { none = none e entries b other clean })
  ]
]
  where
    none : (e : DirtyEntry) (entries : List DirtyEntry) (b : ℕ) → e.block ≢ b → IsClean entries b
        → (i : ℕ) → i < length (e ∷ entries) → (dirty_entry_at (e ∷ entries) i).block ≢ b
    none e entries b other clean zero low = other
    none e entries b other clean (suc i) low = clean.none i (omega arith)

-- entries go whose cells the disk below has
forgets : (d : DiskState) (before after : List DirtyEntry) → AreAmong after before
    → ((i : ℕ) → i < length before → Contains (map (λ e. e.block) after) (dirty_entry_at before i).block
    ⊎ ((dirty_entry_at before i).block < length d.now
    → cell_at d.now (dirty_entry_at before i).block ≡ (dirty_entry_at before i).cell))
    → WrittenBack d d before after
forgets d before after among known = record {
  disk = IsSameDisk-refl d;
  past = KeepsPast-refl d;
  later = omega arith;
  covers = λ may n same cov. record {
    below = cov.below;
    kept = λ i low.
        let h = stood i low in
        let F : DirtyEntry → Type 0 = λ e. Contains (may e.block) e.cell in
        subst F h.2 (cov.kept h.0 h.1);
  };
  picks = λ may n from same cov at. at;
  agrees = λ now ag. record {
    len = ag.len;
    kept = λ i low.
        let h = stood i low in
        let F : DirtyEntry → Type 0 = λ e. e.block < length now → e.cell ≡ cell_at now e.block in
        subst F h.2 (ag.kept h.0 h.1);
    clean = λ b clean. elim (entry_or_clean before b) [
      | inl (i, low, is) ↦
          let F : ℕ → Type 0 = λ k. cell_at d.now k ≡ cell_at now k in
          let G : ℕ → Type 0 = λ k. Contains (map (λ e. e.block) after) k in
          subst F is (elim (known i low) [
            | inl has ↦ absurd (clean_not_dirty after b clean (subst G is has))
            | inr there ↦ had now ag i low there
          ])
      | inr was ↦ ag.clean b was
    ];
  };
  fewer = λ b has.
      let long = length-map after (λ e. e.block) in
      let all = length-map before (λ e. e.block) in
      let low = has.1 in
      let h = stood has.0 (omega arith) in
      let j_low = h.1 in (
        h.0,
        omega arith,
        get_or-map (λ e. e.block) before h.0 no_dirty_entry b h.1 ∙ ap (λ e. e.block) h.2
            ∙ sym (get_or-map (λ e. e.block) after has.0 no_dirty_entry b (omega arith)) ∙ has.2,
      );
}
  where
    stood : (i : ℕ) → i < length after
        → (j : ℕ) × (j < length before) × (dirty_entry_at before j ≡ dirty_entry_at after i)
    stood i low =
        let h = among.each (dirty_entry_at after i) (Contains-get_or after i no_dirty_entry low) in
        (h.0, h.1, get_or_default before h.0 no_dirty_entry (dirty_entry_at after i) h.1 ∙ h.2)

    had : (now : List Cell) → Agrees now d.now before → (i : ℕ) → i < length before
        → ((dirty_entry_at before i).block < length d.now
        → cell_at d.now (dirty_entry_at before i).block ≡ (dirty_entry_at before i).cell)
        → cell_at d.now (dirty_entry_at before i).block ≡ cell_at now (dirty_entry_at before i).block
    had now ag i low there =
        let len = ag.len in
        elim (cases_lt (dirty_entry_at before i).block (length now)) [
          | inl in_range ↦ there (omega arith) ∙ ag.kept i low in_range
          | inr out ↦ get_or-eq_default d.now no_cell (omega arith) ∙ sym (get_or-eq_default now no_cell (omega arith))
        ]

-- the blocks of the first places go, whose cells the disk below has
pub first_forgotten : (d : DiskState) (before after : List DirtyEntry) (order : List ℕ) (places : ℕ)
    → IsOrder before order → AreBelow d.now before order places → AreLeft after order places → AreAmong after before
    → WrittenBack d d before after
first_forgotten d before after order places is below left among =
    forgets d before after among (λ i low. known i low)
  where
    known : (i : ℕ) → i < length before → Contains (map (λ e. e.block) after) (dirty_entry_at before i).block
        ⊎ ((dirty_entry_at before i).block < length d.now
        → cell_at d.now (dirty_entry_at before i).block ≡ (dirty_entry_at before i).cell)
    known i low =
        let b = (dirty_entry_at before i).block in
        let long = length-map before (λ e. e.block) in
        let has : Contains (map (λ e. e.block) before) b =
        (i, omega arith, get_or-map (λ e. e.block) before i no_dirty_entry b low) in
        let h = Contains-permutation _ _ b is.same has in
        elim (cases_lt h.0 places) [
          | inl early ↦ inr (λ in_range. below.each i h.0 low early (get_or_default order h.0 0 b h.1 ∙ h.2) in_range)
          | inr late ↦
              let F : ℕ → Type 0 = λ m. get_or order m b ≡ b in
              let same : h.0 ≡ places + (h.0 - places) = omega arith in
              let k_low = h.1 in
              inl (left.dirty b (behind order places (h.0 - places) b (omega arith) (subst F same h.2)))
        ]

-- where no entry is left, none is left behind the whole order
pub none_left : (order : List ℕ) (places : ℕ) → length order ≤ places → AreLeft [] order places
none_left order places all = record {
  listed = λ b has. let low = has.1 in absurd (omega arith);
  dirty = λ b has. let low = has.1 in let len = length-drop places order in absurd (omega arith);
}

-- every block goes, whose cells the disk below has
pub all_forgotten : (d : DiskState) (entries : List DirtyEntry) (order : List ℕ) (places : ℕ)
    → IsOrder entries order → length order ≤ places → AreBelow d.now entries order places
    → WrittenBack d d entries []
all_forgotten d entries order places is all below =
    first_forgotten d entries [] order places is below (none_left order places all)
    (record { each = λ e has. let low = has.1 in absurd (omega arith) })
