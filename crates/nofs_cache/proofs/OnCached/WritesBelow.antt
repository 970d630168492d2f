-- What a write below does to what is known of a cached disk.
use Rattle.std.proofs.Common.{◌≡◌, ◌≢◌, ◌⊎◌, ℕ, ◌+◌, ◌-◌, ◌<◌, List, [], ◌∷◌, ◌++◌, length, take, map, set, get_or}
use Rattle.std.proofs.Common.{arith, inl, inr, sym, ap, subst, ◌∙◌, Result}
use Rattle.std.proofs.Common.{Ok, Err}
use Rattle.std.specs.Prelude.{Contains, IsPermutation}
use Rattle.std.proofs.lemmas.Bool.{cases_eq, cases_lt}
use Rattle.std.proofs.lemmas.List.{length-set, get_or-set_same, get_or-set_other, length-take-le, length-map}
use Rattle.std.proofs.lemmas.List.{get_or-take, take-map, take_all, take_more}
use Rattle.std.proofs.lemmas.List.{map-append}
use Rattle.std.proofs.Math.ListN.{get_or-eq_default}
use Rattle.std.proofs.lemmas.List.Sorted.{IsPermutation-append_comm}
use Rattle.nofs_disk.specs.declared.Failed.{Failed}
use Rattle.nofs_disk.specs.declared.tag.Cell.{Cell}
use Rattle.nofs_disk.specs.Disk.{DiskState, IsDisk, Picks, Writes, cell_at, no_cell}
use Rattle.nofs_disk.specs.Chains.{IsSameDisk-refl, IsSameDisk-trans, KeepsPast-refl, KeepsPast-trans}
use Rattle.nofs_disk.specs.Moments.{AtEach, AtEach-writes}
use Rattle.nofs_cache.specs.declared.dirty.cells.DirtyEntry.{DirtyEntry}
use Rattle.nofs_cache.specs.Cached.{Agrees, Covers, WrittenBack}
use Rattle.nofs_cache.specs.Dirty.Entries.{HasLast, dirty_entry_at, no_dirty_entry}

pub WrittenBack-refl : (d : DiskState) (entries : List DirtyEntry) → WrittenBack d d entries entries
WrittenBack-refl d entries = record {
  disk = IsSameDisk-refl d;
  past = KeepsPast-refl d;
  later = omega arith;
  covers = λ may n same c. c;
  picks = λ may n from same c at. at;
  agrees = λ now a. a;
  fewer = λ b has. has;
}

pub WrittenBack-trans : (a b c : DiskState) (x y z : List DirtyEntry) → WrittenBack a b x y → WrittenBack b c y z
    → WrittenBack a c x z
WrittenBack-trans a b c x y z p q = record {
  disk = IsSameDisk-trans a b c p.disk q.disk;
  past = KeepsPast-trans a b c p.later p.past q.past;
  later = let e = p.later in let f = q.later in omega arith;
  covers = λ may n same cov. q.covers may n (same ∙ sym p.disk.blocks) (p.covers may n same cov);
  picks = λ may n from same cov at. q.picks may n from (same ∙ sym p.disk.blocks) (p.covers may n same cov)
      (p.picks may n from same cov at);
  agrees = λ now ag. q.agrees now (p.agrees now ag);
  fewer = λ k has. p.fewer k (q.fewer k has);
}

-- an image of the disk below is one of the cached disk
pub Covers-picks : (may : ℕ → List Cell) (n : ℕ) (under : ℕ → List Cell) (entries : List DirtyEntry) (image : List Cell)
    → Covers may n under entries
    → Picks under n image → Picks may n image
Covers-picks may n under entries image cov picks =
    record { len = picks.len; each = λ b low. cov.below b (cell_at image b) low (picks.each b low) }

-- what the disk below may hold after a write of a cell that is kept
below_covers : (may : ℕ → List Cell) (n : ℕ) (old new : DiskState) (entries : List DirtyEntry)
    (i : ℕ) {result : Result (Unit {0}) Failed} → i < length entries
    → Writes old new (dirty_entry_at entries i).block (dirty_entry_at entries i).cell result
    → Covers may n old.may entries
    → (b : ℕ) (c : Cell) → b < n → Contains (new.may b) c → Contains (may b) c
below_covers may n old new entries i low w cov b c in_range has = elim (cases_eq b (dirty_entry_at entries i).block) [
  | inl same ↦
      let F : ℕ → Type 0 = λ k. Contains (new.may k) c in
      let G : ℕ → Type 0 = λ k. Contains (may k) c in
      let H : ℕ → Type 0 = λ k. Contains (old.may k) c in
      elim (w.may c (subst F same has)) [
        | inl before ↦ cov.below b c in_range (subst H (sym same) before)
        | inr is ↦ let J : Cell → Type 0 = λ x. Contains (may (dirty_entry_at entries i).block) x in
            subst G (sym same) (subst J (sym is) (cov.kept i low))
      ]
  | inr other ↦ let F : List Cell → Type 0 = λ l. Contains l c in
      cov.below b c in_range (subst F (w.others b other) has)
]

-- the images of the disk below after a write
pub write_picks : (may : ℕ → List Cell) (n from : ℕ) (old new : DiskState) (entries : List DirtyEntry)
    (i : ℕ) {result : Result (Unit {0}) Failed}
    → i < length entries → IsDisk new
    → Writes old new (dirty_entry_at entries i).block (dirty_entry_at entries i).cell result
    → n ≡ old.blocks → Covers may n old.may entries
    → AtEach (λ m image. Picks may n image) from old → AtEach (λ m image. Picks may n image) from new
write_picks may n from old new entries i low is w same cov at =
    AtEach-writes (λ m image. Picks may n image) from old new is w
    (λ image picks.
    let F : ℕ → Type 0 = λ k. Picks new.may k image in
    let here : Picks new.may n image = subst F (w.disk.blocks ∙ sym same) picks in
    let all : Picks may n image = record {
      len = here.len;
      each =
          λ b in_range. below_covers may n old new entries i low w cov b (cell_at image b) in_range
          (here.each b in_range);
    } in
    (all, all))
    at

front_at : (entries : List DirtyEntry) (i : ℕ) → i < length (take (length entries - 1) entries)
    → dirty_entry_at (take (length entries - 1) entries) i ≡ dirty_entry_at entries i
front_at entries i low = get_or-take (length entries - 1) entries i no_dirty_entry (let e =
    length-take-le (length entries - 1) entries (omega arith) in omega arith)

-- the last entry stands behind the others
pub last_behind : (entries : List DirtyEntry) → 0 < length entries
    → entries ≡ take (length entries - 1) entries ++ dirty_entry_at entries (length entries - 1) ∷ []
last_behind entries some =
    let k : length entries - 1 + 1 ≡ length entries = omega arith in
    sym (take_all (length entries) entries (omega arith)) ∙ ap (λ j. take j entries) (sym k)
    ∙ take_more entries (length entries - 1) no_dirty_entry (omega arith)

pub out_last : (entries : List DirtyEntry) → 0 < length entries
    → IsPermutation ((dirty_entry_at entries (length entries - 1)).block ∷ map (λ e. e.block)
    (take (length entries - 1) entries)) (map (λ e. e.block) entries)
out_last entries some =
    let f : DirtyEntry → ℕ = λ e. e.block in
    let front = take (length entries - 1) entries in
    let last = dirty_entry_at entries (length entries - 1) in
    let is : map f entries ≡ map f front ++ f last ∷ [] = ap (map f) (last_behind entries some)
    ∙ map-append f front (last ∷ []) in
    let F : List ℕ → Type 0 = λ l. IsPermutation (f last ∷ map f front) l in
    subst F (sym is) (IsPermutation-append_comm (f last ∷ []) (map f front))

-- a block that is clean but for one entry, after a write of that entry
agree_clean : (below now : List Cell) (entries : List DirtyEntry) (i b : ℕ) → Agrees now below entries
    → ((k : ℕ) → k < i → (dirty_entry_at entries k).block ≢ b)
    → i + 1 ≡ length entries
    → cell_at (set below (dirty_entry_at entries i).block (dirty_entry_at entries i).cell) b ≡ cell_at now b
agree_clean below now entries i b ag others last = elim (cases_eq b (dirty_entry_at entries i).block) [
  | inl same ↦ elim (cases_lt b (length now)) [
    | inl in_range ↦
        let F : ℕ → Type 0 =
        λ k. cell_at (set below (dirty_entry_at entries i).block (dirty_entry_at entries i).cell) k ≡ cell_at now k in
        let l = ag.len in
        subst F (sym same)
        (get_or-set_same below (dirty_entry_at entries i).block (dirty_entry_at entries i).cell no_cell (omega arith)
        ∙ ag.kept i (omega arith) (omega arith))
    | inr out ↦
        let l = ag.len in
        let s = length-set below (dirty_entry_at entries i).block (dirty_entry_at entries i).cell in
        get_or-eq_default (set below (dirty_entry_at entries i).block (dirty_entry_at entries i).cell)
        no_cell (omega arith)
        ∙ sym (get_or-eq_default now no_cell (omega arith))
  ]
  | inr other ↦
      get_or-set_other below (dirty_entry_at entries i).block b (dirty_entry_at entries i).cell no_cell other
      ∙ ag.clean b (record {
        none = λ k low e. elim (cases_lt k i) [
          | inl before ↦ others k before e
          | inr at ↦ let F : ℕ → Type 0 =
              λ j. (dirty_entry_at entries j).block ≡ b in let here : k ≡ i = omega arith in
              other (sym (subst F here e))
        ];
      })
]

-- a write below of the last entry that succeeds, and leaves the others
pub writes_back_ok : (old new : DiskState) (entries : List DirtyEntry) → 0 < length entries → IsDisk new
    → Writes old new
    (dirty_entry_at entries (length entries - 1)).block (dirty_entry_at entries (length entries - 1)).cell (Ok tt)
    → WrittenBack old new entries (take (length entries - 1) entries)
writes_back_ok old new entries some is w =
    let i = length entries - 1 in
    let low : i < length entries = omega arith in
    let len : length (take i entries) ≡ i = length-take-le i entries (omega arith) in
    record {
      disk = w.disk;
      past = w.past;
      later = let e = w.moment in omega arith;
      covers = λ may n same cov. record {
        below = below_covers may n old new entries i low w cov;
        kept = λ k in_range.
            let F : DirtyEntry → Type 0 = λ e. Contains (may e.block) e.cell in
            subst F (sym (front_at entries k in_range)) (cov.kept k (omega arith));
      };
      picks = λ may n from same cov at. write_picks may n from old new entries i low is w same cov at;
      agrees = λ now ag. record {
        len = ap length w.ok
            ∙ length-set old.now (dirty_entry_at entries i).block (dirty_entry_at entries i).cell ∙ ag.len;
        kept = λ k in_range b_low.
            let F : DirtyEntry → Type 0 = λ e. e.block < length now → e.cell ≡ cell_at now e.block in
            subst F (sym (front_at entries k in_range)) (ag.kept k (omega arith)) b_low;
        clean = λ b clean. ap (λ l. cell_at l b) w.ok ∙ agree_clean old.now now entries i b ag
            (λ k in_range e. clean.none k (let l = len in omega arith)
            (ap (λ x. x.block) (front_at entries k (let l = len in omega arith)) ∙ e)) (omega arith);
      };
      fewer = λ b has. take_fewer entries b has;
    }
  where
    take_fewer : (entries : List DirtyEntry) (b : ℕ)
        → Contains (map (λ e. e.block) (take (length entries - 1) entries)) b
        → Contains (map (λ e. e.block) entries) b
    take_fewer entries b (k, low, is) =
        let f : DirtyEntry → ℕ = λ e. e.block in
        let i = length entries - 1 in
        let e : take i (map f entries) ≡ map f (take i entries) = take-map f i entries in
        let len : length (map f (take i entries)) ≡ i = length-map (take i entries) f
        ∙ length-take-le i entries (omega arith) in
        let all : length (map f entries) ≡ length entries = length-map entries f in
        (k, omega arith, sym (get_or-take i (map f entries) k b (omega arith)) ∙ ap (λ l. get_or l k b) e ∙ is)

-- what the disk below holds after a write
now_after : (old new : DiskState) (b : ℕ) (c : Cell) (result : Result (Unit {0}) Failed) → Writes old new b c result
    → (new.now ≡ old.now) ⊎ (new.now ≡ set old.now b c)
now_after old new b c (Ok u) w = inr w.ok
now_after old new b c (Err failed) w = w.err

-- a write below of an entry that stays
pub writes_stay : (old new : DiskState) (entries : List DirtyEntry) (i : ℕ) (result : Result (Unit {0}) Failed)
    → i < length entries → IsDisk new
    → Writes old new (dirty_entry_at entries i).block (dirty_entry_at entries i).cell result
    → WrittenBack old new entries entries
writes_stay old new entries i result low is w = record {
  disk = w.disk;
  past = w.past;
  later = let e = w.moment in omega arith;
  covers = λ may n same cov. record { below = below_covers may n old new entries i low w cov; kept = cov.kept };
  picks = λ may n from same cov at. write_picks may n from old new entries i low is w same cov at;
  agrees = λ now ag. elim (now_after old new _ _ result w) [
    | inl stays ↦ let F : List Cell → Type 0 = λ l. Agrees now l entries in subst F (sym stays) ag
    | inr taken ↦ record {
      len = ap length taken
          ∙ length-set old.now (dirty_entry_at entries i).block (dirty_entry_at entries i).cell ∙ ag.len;
      kept = ag.kept;
      clean = λ b clean. ap (λ l. cell_at l b) taken ∙ get_or-set_other old.now (dirty_entry_at entries i).block b
          (dirty_entry_at entries i).cell no_cell (λ e. clean.none i low (sym e)) ∙ ag.clean b clean;
    }
  ];
  fewer = λ b has. has;
}

-- the same, of the entry that `last` gave
pub last_writes_back_ok : (old new : DiskState) (entries after : List DirtyEntry) (blocks : ℕ) (e : DirtyEntry)
    (result : Result (Unit {0}) Failed)
    (u : Unit {0}) → HasLast entries blocks e → IsDisk new
    → result ≡ Ok u → Writes old new e.block e.cell result → after ≡ take (length entries - 1) entries
    → WrittenBack old new entries after
last_writes_back_ok old new entries after blocks e result u last is ok w cut =
    let F : DirtyEntry → Type 0 = λ x. Writes old new x.block x.cell result in
    let G : Result (Unit {0}) Failed → Type 0 = λ r. Writes old new (dirty_entry_at entries (length entries - 1)).block
    (dirty_entry_at entries (length entries - 1)).cell r in
    let H : List DirtyEntry → Type 0 = λ l. WrittenBack old new entries l in
    subst H (sym cut) (writes_back_ok old new entries last.some is (subst G ok (subst F last.is w)))

pub last_writes_back_err : (old new : DiskState) (entries : List DirtyEntry) (blocks : ℕ) (e : DirtyEntry)
    (result : Result (Unit {0}) Failed)
    (failed : Failed) → HasLast entries blocks e → IsDisk new
    → result ≡ Err failed → Writes old new e.block e.cell result → WrittenBack old new entries entries
last_writes_back_err old new entries blocks e result failed last is err w =
    let F : DirtyEntry → Type 0 = λ x. Writes old new x.block x.cell result in
    let G : Result (Unit {0}) Failed → Type 0 = λ r. Writes old new (dirty_entry_at entries (length entries - 1)).block
    (dirty_entry_at entries (length entries - 1)).cell r in
    let some = last.some in
    writes_stay old new entries (length entries - 1) (Err failed) (omega arith) is (subst G err (subst F last.is w))

pub last_out : (entries after : List DirtyEntry) (blocks : ℕ) (e : DirtyEntry) → HasLast entries blocks e
    → after ≡ take (length entries - 1) entries
    → IsPermutation (e.block ∷ map (λ x. x.block) after) (map (λ x. x.block) entries)
last_out entries after blocks e last cut =
    let F : DirtyEntry → Type 0 =
    λ x. IsPermutation (x.block ∷ map (λ y. y.block) after) (map (λ y. y.block) entries) in
    let H : List DirtyEntry → Type 0 =
    λ l. IsPermutation ((dirty_entry_at entries (length entries - 1)).block ∷ map (λ y. y.block) l)
    (map (λ y. y.block) entries) in
    subst F (sym last.is) (subst H (sym cut) (out_last entries last.some))
