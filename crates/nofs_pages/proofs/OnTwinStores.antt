-- Pages with two places, seen as their cells: what is shown, and what is put.
use Rattle.std.proofs.Common.{◌≡◌, ℕ, ◌+◌, ◌*◌, ◌/◌, ◌%◌, ◌<◌, ◌≤◌, ◌⊎◌, Bool, List, length, arith, refl, sym, ap, ◌∙◌}
use Rattle.std.proofs.Common.{inl, inr}
use Rattle.std.proofs.Common.{subst, Ok, Err}
use Rattle.std.specs.Prelude.{IsFalse, IsTrue, slice_index}
use Rattle.std.proofs.lemmas.Bool.{cases_lt}
use Rattle.nofs_disk.specs.Disk.{Rose}
use Rattle.nofs_disk.specs.declared.Failed.{Failed}
use Rattle.nofs_disk.specs.CellsOfBytes.{part_of}
use Rattle.nofs_filedisk.specs.Bytes.{HostFileState, KeepsBytes, KeepsDurable}
use Rattle.nofs_pages.specs.Laws.{at-page_bytes, past-page_bytes}
use Rattle.nofs_pages.specs.Stores.{KeepsCells, Puts, Shows}
use Rattle.nofs_pages.specs.Twins.{HasReadPairs, HasTwinAreas, HasTwins, HasTwinsTold, IsTwinTold, TwinRests, TwinTold}
use Rattle.nofs_pages.specs.Twins.{WritesTwins, twin_byte, twin_state}
use Rattle.nofs_pages.specs.Views.{ShowsCells, page_bytes, shown}
use Rattle.nofs_pages.proofs.OnPages.{at-part_of}
use Rattle.nofs_pages.proofs.OnPairs.{read-area, read-told}
use Rattle.nofs_pages.proofs.OnTwins.{area-same, area_in, byte-area, page-apart, page-put}
use Rattle.nofs_pages.proofs.OnViews.{shown-told}

-- The bytes of cells

at-twin : (file : HostFileState) (f k : ℕ) → IsTrue file.tells → k < 1107298368
    → slice_index (twin_state file f).bytes k ≡ twin_byte file.bytes k
at-twin file f k tells low =
    ap (λ l. slice_index l k) (shown-told file.tells (page_bytes (twin_byte file.bytes)) tells)
    ∙ at-page_bytes (twin_byte file.bytes) k low

past-twin : (file : HostFileState) (f k : ℕ) → IsTrue file.tells → 1107298368 ≤ k
    → slice_index (twin_state file f).bytes k ≡ 0
past-twin file f k tells past =
    ap (λ l. slice_index l k) (shown-told file.tells (page_bytes (twin_byte file.bytes)) tells)
    ∙ past-page_bytes (twin_byte file.bytes) k past

-- one of them, by its page
at-page : (file : HostFileState) (f p k : ℕ) → IsTrue file.tells → p < 349526 → k < 3168
    → slice_index (twin_state file f).bytes (3168 * p + k) ≡ slice_index (area_in file.bytes p) k
at-page file f p k tells low small =
    let page : (3168 * p + k) / 3168 ≡ p = omega arith in
    let rest : (3168 * p + k) % 3168 ≡ k = omega arith in
    at-twin file f (3168 * p + k) tells (omega arith) ∙ byte-area file.bytes p (3168 * p + k) page
    ∙ ap (slice_index (area_in file.bytes p)) rest

pub keeps-twin : (old new : HostFileState) (f g : ℕ) → f ≤ g → KeepsBytes old new
    → KeepsCells (twin_state old f) (twin_state new g)
keeps-twin old new f g more keeps = record {
  tells = keeps.tells;
  faults = more;
  bytes = λ tells k.
      ap (λ l. slice_index (shown new.tells (page_bytes (twin_byte l))) k) keeps.bytes
      ∙ ap (λ t. slice_index (shown t (page_bytes (twin_byte old.bytes))) k) keeps.tells;
}

-- Pages that are shown

cells-shown : (file : HostFileState) (f : ℕ) (pairs : List ℕ) (first count to : ℕ) (old new : List ℕ)
    → first + count ≤ 349526 → HasReadPairs file.bytes first count pairs → IsTrue file.tells
    → HasTwinAreas pairs first count to old new
    → ShowsCells (slice_index (twin_state file f).bytes) first count to old new
cells-shown file f pairs first count to old new most read tells areas = record {
  inside = λ i low.
      let j = i / 3168 in
      let k = i % 3168 in
      let place : to + i ≡ to + (3168 * j + k) = omega arith in
      let byte : 3168 * (first + j) + k ≡ 3168 * first + i = omega arith in
      ap (slice_index new) place ∙ areas.inside j k (omega arith) (omega arith)
      ∙ ap (λ l. slice_index l k) (read-area file.bytes pairs first count j read (omega arith))
      ∙ sym (at-page file f (first + j) k tells (omega arith) (omega arith))
      ∙ ap (slice_index (twin_state file f).bytes) byte;
  others = areas.others;
}

pub shows-twins : (old new : HostFileState) (f g : ℕ) (pairs : List ℕ) (first count to : ℕ)
    (areas into : List ℕ) (all : Bool)
    → g ≡ f → first + count ≤ 349526 → KeepsBytes old new → length into ≡ length areas
    → (IsTrue all → IsTrue old.tells
    → HasReadPairs old.bytes first count pairs × HasTwinAreas pairs first count to areas into)
    → Shows (twin_state old f) (twin_state new g) first count to areas into (Ok all)
shows-twins old new f g pairs first count to areas into all no_fault most keeps len has = record {
  keeps = keeps-twin old new f g (omega arith) keeps;
  len = len;
  cells = λ told tells. cells-shown old f pairs first count to areas into most (has told tells).0 tells
      (has told tells).1;
  cause = tt;
  no_fault = no_fault;
}

pub shows-none : (old new : HostFileState) (f g : ℕ) (first count to : ℕ) (areas into : List ℕ) (e : Failed)
    → Rose f g → f ≤ g → KeepsBytes old new → length into ≡ length areas
    → Shows (twin_state old f) (twin_state new g) first count to areas into (Err e)
shows-none old new f g first count to areas into e rose more keeps len = record {
  keeps = keeps-twin old new f g more keeps;
  len = len;
  cells = tt;
  cause = rose;
  no_fault = tt;
}

pub twins-told : (old new : HostFileState) (fresh : Bool) (pairs : List ℕ) (first count j : ℕ) → KeepsBytes old new
    → (IsTrue old.tells → HasReadPairs old.bytes first count pairs)
    → (IsFalse fresh → HasTwinsTold pairs first count) → j < count → TwinTold new fresh (first + j)
twins-told old new fresh pairs first count j keeps read told low old_file tells =
    let told_then : IsTrue old.tells = sym keeps.tells ∙ tells in
    let F : List ℕ → Type 0 =
    λ l. IsTwinTold (first + j) (part_of l (8192 * (first + j)) 4096) (part_of l (8192 * (first + j) + 4096) 4096) in
    subst F (sym keeps.bytes) (read-told old.bytes pairs first count j (read told_then) low (told old_file j low))

-- Pages that are put

module _ (old new : HostFileState) (f g first count : ℕ) (areas : List ℕ) (most : first + count ≤ 349526)
    (keeps : KeepsDurable old new) (writes : IsTrue old.tells → WritesTwins old.bytes new.bytes first count areas) where
  others : IsTrue old.tells → (k : ℕ) → (k < 3168 * first) ⊎ (3168 * first + 3168 * count ≤ k)
      → slice_index (twin_state new g).bytes k ≡ slice_index (twin_state old f).bytes k
  others tells k apart = elim (cases_lt k 1107298368) [
    | inl low ↦
        let p = k / 3168 in
        let beside : (p < first) ⊎ (first + count ≤ p) =
        elim apart [ inl front ↦ inl (omega arith) | inr behind ↦ inr (omega arith) ] in
        at-twin new g k (keeps.tells ∙ tells) low ∙ byte-area new.bytes p k refl
        ∙ ap (λ l. slice_index l (k % 3168))
        (area-same old.bytes new.bytes p (page-apart old.bytes new.bytes first count areas (writes tells) p beside))
        ∙ sym (at-twin old f k tells low ∙ byte-area old.bytes p k refl)
    | inr past ↦ past-twin new g k (keeps.tells ∙ tells) past ∙ sym (past-twin old f k tells past)
  ]

  inside : (IsTrue old.tells → HasTwins old.bytes new.bytes first count areas) → IsTrue old.tells
      → (k : ℕ) → k < 3168 * count → slice_index (twin_state new g).bytes (3168 * first + k) ≡ slice_index areas k
  inside has tells k low =
      let j = k / 3168 in
      let i = k % 3168 in
      let place : 3168 * first + k ≡ 3168 * (first + j) + i = omega arith in
      let index : 3168 * j + i ≡ k = omega arith in
      ap (slice_index (twin_state new g).bytes) place
      ∙ at-page new g (first + j) i (keeps.tells ∙ tells) (omega arith) (omega arith)
      ∙ ap (λ l. slice_index l i)
      (page-put old.bytes new.bytes first count areas (writes tells) most (has tells) j (omega arith)).1
      ∙ at-part_of areas (3168 * j) 3168 i (omega arith) ∙ ap (slice_index areas) index

  pub puts-twins : (IsTrue old.tells → HasTwins old.bytes new.bytes first count areas) → g ≡ f
      → Puts (twin_state old f) (twin_state new g) first count areas (Ok tt)
  puts-twins has no_fault = record {
    tells = keeps.tells;
    faults = omega arith;
    inside = inside has;
    others = others;
    cause = tt;
    no_fault = no_fault;
  }

  pub puts-none : (e : Failed) → Rose f g → f ≤ g → Puts (twin_state old f) (twin_state new g) first count areas (Err e)
  puts-none e rose more = record {
    tells = keeps.tells;
    faults = more;
    inside = tt;
    others = others;
    cause = rose;
    no_fault = tt;
  }

  pub rests-apart : (p : ℕ) → (p < first) ⊎ (first + count ≤ p) → TwinRests old p → TwinRests new p
  rests-apart p apart rests tells k low =
      let told : IsTrue old.tells = sym keeps.tells ∙ tells in
      ap (λ l. slice_index l (8192 * p + k)) keeps.durable ∙ rests told k low
      ∙ sym (page-apart old.bytes new.bytes first count areas (writes told) p apart k low)
