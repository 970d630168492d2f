-- Writes of a cached disk.
use Rattle.std.proofs.Common.{◌≡◌, ◌≢◌, ◌⊎◌, ◌↔◌, ℕ, ◌+◌, ◌<◌, ◌≤◌, List, [], ◌∷◌, ◌++◌, length, map, set, arith, inl}
use Rattle.std.proofs.Common.{inr, refl, sym, ap, subst, ◌∙◌, Ok}
use Rattle.std.specs.Prelude.{Contains, slice_index}
use Rattle.std.proofs.Math.Logic.{∥∥₁_elim, ∥∥₁_prop}
use Rattle.std.proofs.Math.Seq.{map-set_same}
use Rattle.std.proofs.lemmas.Bool.{cases_eq, cases_lt}
use Rattle.std.proofs.lemmas.List.{length-set, length_push, get_or-set_same, get_or-set_other, get_or_append_left}
use Rattle.std.proofs.lemmas.List.{get_or-map, get_or_push, length-map}
use Rattle.std.proofs.lemmas.List.{map-append}
use Rattle.std.proofs.lemmas.List.Elements.{Contains-push, Contains-push_cases, Contains-append_left}
use Rattle.std.specs.declared.snapshot.Snapshot.{Snapshot}
use Rattle.nofs_disk.specs.declared.tag.Cell.{Cell}
use Rattle.nofs_disk.specs.Cells.{Picks-known}
use Rattle.nofs_disk.specs.Chains.{IsSameDisk-refl, KeepsPast-refl}
use Rattle.nofs_disk.specs.Disk.{DiskState, IsDisk, IsSizedCell, Picks, Writes, cell_at, no_cell}
use Rattle.nofs_disk.specs.Moments.{AtEach}
use Rattle.nofs_disk.specs.Held.{Held, IsWithin, written, written_here, written_other}
use Rattle.nofs_cache.specs.declared.dirty.cells.DirtyEntry.{DirtyEntry}
use Rattle.nofs_cache.specs.declared.dirty.past.CacheCall.{CacheCall}
use Rattle.nofs_cache.specs.declared.dirty.past.CacheCall.TheVariants.{Write}
use Rattle.nofs_cache.specs.Cached.{Agrees, Covers, IsMarked, cache_state, held}
use Rattle.nofs_cache.specs.Dirty.Entries.{IsClean, AreSlotted, PutsDirtyEntry, dirty_entry, dirty_entry_at}
use Rattle.nofs_cache.specs.Dirty.Entries.{no_dirty_entry}
use Rattle.nofs_cache.specs.Laws.{CacheKeeps, first_held}
use Rattle.nofs_cache.proofs.OnCached.Calls.{cache_disk, cache_past_more, left_during}
use Rattle.nofs_cache.proofs.OnCached.WritesBelow.{Covers-picks}

-- two entries are of two blocks
abbrev pub IsDistinct : List DirtyEntry → Type 0
IsDistinct entries = (i j : ℕ) → i < length entries → j < length entries
    → (dirty_entry_at entries i).block ≡ (dirty_entry_at entries j).block → i ≡ j

pub placed_distinct : (slots : List ℕ) (entries : List DirtyEntry) → AreSlotted slots entries → IsDistinct entries
placed_distinct slots entries placed i j low_i low_j same = sym (placed.at i low_i) ∙ ap (slice_index slots) same
    ∙ placed.at j low_j

-- each entry is the one that was put, or one that was there of another block
put_at : (entries after : List DirtyEntry) (b : ℕ) (c : Cell) → IsDistinct entries → PutsDirtyEntry entries after b c
    → (j : ℕ) → j < length after
    → (dirty_entry_at after j ≡ dirty_entry b c) ⊎ ((j < length entries) ×
    ((dirty_entry_at after j ≡ dirty_entry_at entries j) × ((dirty_entry_at entries j).block ≢ b)))
put_at entries after b c distinct (inl r) j low =
    let len : length after ≡ length entries = ap length r.set ∙ length-set entries r.at (dirty_entry b c) in
    let at : dirty_entry_at after j ≡ dirty_entry_at (set entries r.at (dirty_entry b c)) j =
    ap (λ l. dirty_entry_at l j) r.set in
    elim (cases_eq j r.at) [
      | inl same ↦
          let F : ℕ → Type 0 = λ k. dirty_entry_at (set entries r.at (dirty_entry b c)) k ≡ dirty_entry b c in
          inl (at ∙ subst F (sym same) (get_or-set_same entries r.at (dirty_entry b c) no_dirty_entry r.is.low))
      | inr other ↦ inr (
        omega arith,
        (
          at ∙ get_or-set_other entries r.at j (dirty_entry b c) no_dirty_entry other,
          λ e. other (distinct j r.at (omega arith) r.is.low (e ∙ sym r.is.block)),
        ),
      )
    ]
put_at entries after b c distinct (inr a) j low =
    let len : length after ≡ length entries + 1 = ap length a.push ∙ length_push entries (dirty_entry b c) in
    let at : dirty_entry_at after j ≡ dirty_entry_at (entries ++ dirty_entry b c ∷ []) j =
    ap (λ l. dirty_entry_at l j) a.push in
    elim (cases_lt j (length entries)) [
      | inl before ↦ inr (
        before,
        (at ∙ get_or_append_left entries (dirty_entry b c ∷ []) no_dirty_entry j before, a.clean.none j before),
      )
      | inr last ↦ inl (at ∙ get_or_push entries (dirty_entry b c) no_dirty_entry j (omega arith))
    ]

-- a block that is clean then is another one, and was clean before
put_clean : (entries after : List DirtyEntry) (b : ℕ) (c : Cell) → PutsDirtyEntry entries after b c
    → (k : ℕ) → IsClean after k → (k ≢ b) × IsClean entries k
put_clean entries after b c (inl r) k clean =
    let len : length after ≡ length entries = ap length r.set ∙ length-set entries r.at (dirty_entry b c) in
    let put : dirty_entry_at after r.at ≡ dirty_entry b c =
    ap (λ l. dirty_entry_at l r.at) r.set ∙ get_or-set_same entries r.at (dirty_entry b c) no_dirty_entry r.is.low in
    let other : k ≢ b = λ e. clean.none r.at (let l = r.is.low in omega arith) (ap (λ x. x.block) put ∙ sym e) in (
      other,
      record {
        none = λ j low e. elim (cases_eq j r.at) [
          | inl same ↦ let F : ℕ → Type 0 = λ x. (dirty_entry_at entries x).block ≡ k in
              other (sym (subst F same e) ∙ r.is.block)
          | inr apart ↦ clean.none j (omega arith) (ap (λ x. x.block)
              (ap (λ l. dirty_entry_at l j) r.set
              ∙ get_or-set_other entries r.at j (dirty_entry b c) no_dirty_entry apart) ∙ e)
        ];
      },
    )
put_clean entries after b c (inr a) k clean =
    let len : length after ≡ length entries + 1 = ap length a.push ∙ length_push entries (dirty_entry b c) in (
      λ e. clean.none (length entries) (omega arith) (ap (λ x. x.block)
          (ap (λ l. dirty_entry_at l (length entries)) a.push
          ∙ get_or_push entries (dirty_entry b c) no_dirty_entry (length entries) refl) ∙ sym e),
      record {
        none = λ j low e. clean.none j (omega arith)
            (ap (λ x. x.block) (ap (λ l. dirty_entry_at l j) a.push
            ∙ get_or_append_left entries (dirty_entry b c ∷ []) no_dirty_entry j low) ∙ e);
      },
    )

may_here : (h : Held) (b : ℕ) (c : Cell) → Contains ((written h b c).may b) c
may_here h b c = let F : List Cell → Type 0 = λ l. Contains l c in
    subst F (sym (written_here h b c)) (Contains-push (h.may b) c)

may_grows : (h : Held) (b k : ℕ) (c x : Cell) → Contains (h.may k) x → Contains ((written h b c).may k) x
may_grows h b k c x has = elim (cases_eq k b) [
  | inl same ↦
      let F : ℕ → Type 0 = λ j. Contains (h.may j) x → Contains ((written h b c).may j) x in
      let G : List Cell → Type 0 = λ l. Contains l x in
      subst F (sym same)
      (λ here. subst G (sym (written_here h b c)) (Contains-append_left (h.may b) (c ∷ []) x here)) has
  | inr other ↦ let G : List Cell → Type 0 = λ l. Contains l x in subst G (sym (written_other h b k c other)) has
]

put_covers : (h : Held) (n : ℕ) (under : ℕ → List Cell) (entries after : List DirtyEntry) (b : ℕ) (c : Cell)
    → IsDistinct entries
    → PutsDirtyEntry entries after b c → Covers h.may n under entries → Covers (written h b c).may n under after
put_covers h n under entries after b c distinct put cov = record {
  below = λ k x low has. may_grows h b k c x (cov.below k x low has);
  kept = λ j low.
      let F : DirtyEntry → Type 0 = λ e. Contains ((written h b c).may e.block) e.cell in
      elim (put_at entries after b c distinct put j low) [
        | inl is ↦ subst F (sym is) (may_here h b c)
        | inr (before, (is, other)) ↦ subst F (sym is)
            (may_grows h b (dirty_entry_at entries j).block c (dirty_entry_at entries j).cell (cov.kept j before))
      ];
}

put_agrees : (h : Held) (below : List Cell) (entries after : List DirtyEntry) (b : ℕ) (c : Cell) → IsDistinct entries
    → PutsDirtyEntry entries after b c
    → Agrees h.now below entries → Agrees (written h b c).now below after
put_agrees h below entries after b c distinct put ag =
    let len : length (set h.now b c) ≡ length h.now = length-set h.now b c in
    record {
      len = ag.len ∙ sym len;
      kept = λ j low.
          let F : DirtyEntry → Type 0 = λ e. e.block < length (set h.now b c)
          → e.cell ≡ cell_at (set h.now b c) e.block in
          elim (put_at entries after b c distinct put j low) [
            | inl is ↦ subst F (sym is) (λ b_low. sym (get_or-set_same h.now b c no_cell (omega arith)))
            | inr (before, (is, other)) ↦ subst F (sym is) (λ b_low. ag.kept j before (omega arith)
                ∙ sym (get_or-set_other h.now b (dirty_entry_at entries j).block c no_cell other))
          ];
      clean = λ k clean.
          let was = put_clean entries after b c put k clean in
          ag.clean k was.1 ∙ sym (get_or-set_other h.now b k c no_cell was.0);
    }

-- what the disk below may leave at its present moment
pub rest_at : (may : ℕ → List Cell) (under : DiskState) (entries : List DirtyEntry) → IsDisk under
    → Covers may under.blocks under.may entries
    → AtEach (λ m image. Picks may under.blocks image) under.moment under
rest_at may under entries is cov = record {
  begun = omega arith;
  each = λ m image low high left.
      let F : ℕ → Type 0 = λ k. under.left k image → Picks may under.blocks image in
      let e : m ≡ under.moment = omega arith in
      subst F (sym e) (λ l. Covers-picks may under.blocks under.may entries image cov (is.at_rest image l)) left;
}

-- the cells that may be held after a write
write_within : (h : Held) (n b : ℕ) (c : Cell) → b < n → IsSizedCell c → IsWithin h.may n
    → IsWithin (written h b c).may n
write_within h n b c low size w = record {
  beyond = λ k x past has.
      let F : List Cell → Type 0 = λ l. Contains l x in
      w.beyond k x past (subst F (written_other h b k c (λ e. omega arith)) has);
  sized = λ k x has.
      let F : List Cell → Type 0 = λ l. Contains l x in
      let G : ℕ → Type 0 = λ j. Contains ((written h b c).may j) x in
      let H : Cell → Type 0 = λ y. IsSizedCell y in
      elim (cases_eq k b) [
        | inl same ↦ elim (Contains-push_cases (h.may b) c x (subst F (written_here h b c) (subst G same has))) [
          | inl before ↦ w.sized b x before
          | inr is ↦ subst H is size
        ]
        | inr other ↦ w.sized k x (subst F (written_other h b k c other) has)
      ];
}

pub write_kept : (under first : DiskState) (past : List CacheCall) (entries after : List DirtyEntry) (b at : ℕ)
    (snap : Snapshot Cell) → IsDisk under
    → b < under.blocks → IsSizedCell snap.value → at ≡ under.moment → IsDistinct entries
    → PutsDirtyEntry entries after b snap.value
    → ∥ CacheKeeps under first past entries ∥₁ → ∥ CacheKeeps under first (Write b snap at ∷ past) after ∥₁
write_kept under first past entries after b at snap is low size begins distinct put kept =
    ∥∥₁_elim kept ∥∥₁_prop (λ k. ∣ goes k ∣₁)
  where
    goes : CacheKeeps under first past entries → CacheKeeps under first (Write b snap at ∷ past) after
    goes k =
        let h = held (first_held first) past in
        let cov = put_covers h under.blocks under.may entries after b snap.value distinct put k.covers in
        let F : ℕ → Type 0 = λ m. AtEach (λ j image. Picks (written h b snap.value).may under.blocks image) m under in
        record {
          covers = cov;
          picks = subst F (sym begins) (rest_at (written h b snap.value).may under after is cov);
          agrees = put_agrees h under.now entries after b snap.value distinct put k.agrees;
          within = write_within h under.blocks b snap.value low size k.within;
        }

-- the dirty blocks are as they were, but for one
put_dirty : (entries after : List DirtyEntry) (b : ℕ) (c : Cell) → PutsDirtyEntry entries after b c
    → ((k : ℕ) → k ≢ b → Contains (map (λ e. e.block) after) k ↔ Contains (map (λ e. e.block) entries) k)
    × Contains (map (λ e. e.block) after) b
put_dirty entries after b c (inl r) =
    let f : DirtyEntry → ℕ = λ e. e.block in
    let same : map f after ≡ map f entries = ap (map f) r.set
    ∙ map-set_same f entries r.at (dirty_entry b c) no_dirty_entry (sym r.is.block) in
    let F : List ℕ → Type 0 = λ l. (k : ℕ) → k ≢ b → Contains l k ↔ Contains (map f entries) k in
    let G : List ℕ → Type 0 = λ l. Contains l b in (
      subst F (sym same) (λ k other. (λ has. has, λ has. has)),
      subst G (sym same) (block_in entries b r.at r.is.low r.is.block),
    )
  where
    block_in : (entries : List DirtyEntry) (b i : ℕ) → i < length entries
        → (dirty_entry_at entries i).block ≡ b → Contains (map (λ e. e.block) entries) b
    block_in entries b i low is = (
      i,
      (let l = length-map entries (λ e. e.block) in omega arith),
      get_or-map (λ e. e.block) entries i no_dirty_entry b low ∙ is,
    )
put_dirty entries after b c (inr a) =
    let f : DirtyEntry → ℕ = λ e. e.block in
    let same : map f after ≡ map f entries ++ b ∷ [] = ap (map f) a.push
    ∙ map-append f entries (dirty_entry b c ∷ []) in
    let F : List ℕ → Type 0 = λ l. (k : ℕ) → k ≢ b → Contains l k ↔ Contains (map f entries) k in
    let G : List ℕ → Type 0 = λ l. Contains l b in (
      subst F (sym same) (λ k other. (
        λ has. elim (Contains-push_cases (map f entries) b k has)
            [ inl before ↦ before | inr is ↦ absurd (other (sym is)) ],
        λ has. Contains-append_left (map f entries) (b ∷ []) k has,
      )),
      subst G (sym same) (Contains-push (map f entries) b),
    )

pub cache_writes : (under first : DiskState) (past : List CacheCall) (entries after : List DirtyEntry) (s t b at : ℕ)
    (snap : Snapshot Cell) → IsDisk under
    → b < under.blocks → IsSizedCell snap.value → at ≡ under.moment → IsDistinct entries
    → PutsDirtyEntry entries after b snap.value
    → ∥ CacheKeeps under first past entries ∥₁ → IsMarked first.moment past under.moment → t + 1 ≡ s
    → Writes (cache_state under first past entries s)
    (cache_state under first (Write b snap at ∷ past) after t) b snap.value (Ok tt)
cache_writes under first past entries after s t b at snap is low size begins distinct put kept marked room =
    let h = held (first_held first) past in
    let next = write_kept under first past entries after b at snap is low size begins distinct put kept in
    let dirty = put_dirty entries after b snap.value put in
    record {
      disk = cache_disk under under first past (Write b snap at ∷ past) entries after s t (IsSameDisk-refl under);
      past = cache_past_more under under first past (Write b snap at) entries after s t
          (KeepsPast-refl under) begins marked;
      moment = omega arith;
      spare = room;
      ok = refl;
      err = tt;
      may = λ x has.
          let F : List Cell → Type 0 = λ l. Contains l x in
          elim (Contains-push_cases (h.may b) snap.value x (subst F (written_here h b snap.value) has))
          [ inl before ↦ inl before | inr is ↦ inr (sym is) ];
      stays = λ x has.
          let F : List Cell → Type 0 = λ l. Contains l x in
          subst F (sym (written_here h b snap.value)) (Contains-append_left (h.may b) (snap.value ∷ []) x has);
      others = λ k other. written_other h b k snap.value other;
      during = λ image left.
          let w = left_during under.left first.moment past (Write b snap at) under.moment image left in
          Picks-known _ _ image
          (∥∥₁_elim next ∥∥₁_prop (λ k. ∣ k.picks.each w.at image w.low (let u = w.high in omega arith) w.left ∣₁));
      cause = tt;
      no_fault = refl;
      dirty = dirty.0;
      held = λ holds. (refl, dirty.1, refl);
    }

pub put_len : (entries after : List DirtyEntry) (b : ℕ) (c : Cell) → PutsDirtyEntry entries after b c
    → length after ≤ length entries + 1
put_len entries after b c (inl r) = let e = ap length r.set ∙ length-set entries r.at (dirty_entry b c) in omega arith
put_len entries after b c (inr a) = let e = ap length a.push ∙ length_push entries (dirty_entry b c) in omega arith
