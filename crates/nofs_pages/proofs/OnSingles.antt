-- Pages with one place each: what is read of them, and what is put.
use Rattle.std.proofs.Common.{◌≡◌, ℕ, ◌+◌, ◌-◌, ◌*◌, ◌/◌, ◌%◌, ◌<◌, ◌≤◌, ◌⊎◌, Bool, List, length, take}
use Rattle.std.proofs.Common.{arith, refl, sym, ap, ◌∙◌, inl, inr, subst, Result, Ok, Err}
use Rattle.std.specs.Prelude.{IsFalse, IsTrue, OnErr, OnOk, slice_index}
use Rattle.std.proofs.lemmas.Bool.{cases_lt}
use Rattle.std.proofs.lemmas.List.{get_or-take, length-take-le}
use Rattle.nofs_disk.specs.Disk.{Rose}
use Rattle.nofs_disk.specs.declared.Failed.{Failed}
use Rattle.nofs_disk.specs.CellsOfBytes.{part_of}
use Rattle.nofs_filedisk.specs.Bytes.{HostFileState, IsPartlyPut, IsPut, KeepsBytes, KeepsDurable}
use Rattle.nofs_filedisk.proofs.OnMoving.Units.{part-same}
use Rattle.nofs_pages.specs.Laws.{at-page_bytes, past-page_bytes}
use Rattle.nofs_pages.specs.Pages.{HasAreas, HasPages, HasTold, IsTold, area_of}
use Rattle.nofs_pages.specs.Singles.{HasRead, SingleRests, SingleTold, WritesPages, byte_in, single_state}
use Rattle.nofs_pages.specs.Stores.{KeepsCells, Puts, Shows}
use Rattle.nofs_pages.specs.Views.{ShowsCells, page_bytes, shown}
use Rattle.nofs_pages.proofs.OnPages.{at-part_of, byte_in-page, row-other, row-put}
use Rattle.nofs_pages.proofs.OnViews.{length-take-most, shown-told, whole-partly}

-- The bytes of cells

pub at-single : (file : HostFileState) (k : ℕ) → IsTrue file.tells → k < 1107298368
    → slice_index (single_state file).bytes k ≡ byte_in file.bytes k
at-single file k tells low =
    ap (λ l. slice_index l k) (shown-told file.tells (page_bytes (byte_in file.bytes)) tells)
    ∙ at-page_bytes (byte_in file.bytes) k low

past-single : (file : HostFileState) (k : ℕ) → IsTrue file.tells → 1107298368 ≤ k
    → slice_index (single_state file).bytes k ≡ 0
past-single file k tells past =
    ap (λ l. slice_index l k) (shown-told file.tells (page_bytes (byte_in file.bytes)) tells)
    ∙ past-page_bytes (byte_in file.bytes) k past

pub keeps-single : (old new : HostFileState) → KeepsBytes old new → KeepsCells (single_state old) (single_state new)
keeps-single old new keeps = record {
  tells = keeps.tells;
  faults = keeps.faults;
  bytes = λ tells k.
      ap (λ l. slice_index (shown new.tells (page_bytes (byte_in l))) k) keeps.bytes
      ∙ ap (λ t. slice_index (shown t (page_bytes (byte_in old.bytes))) k) keeps.tells;
}

-- Pages that were read

page-read : (raw pages : List ℕ) (first count j : ℕ) → HasRead raw first count pages → j < count
    → part_of pages (4096 * j) 4096 ≡ part_of raw (4096 * (first + j)) 4096
page-read raw pages first count j read low =
    part-same pages raw (4096 * j) (4096 * (first + j)) 4096 (λ i small.
    let place : 4096 * first + (4096 * j + i) ≡ 4096 * (first + j) + i = omega arith in
    read (4096 * j + i) (omega arith) ∙ ap (slice_index raw) place)

areas-shown : (file : HostFileState) (pages : List ℕ) (first count to : ℕ) (old new : List ℕ)
    → first + count ≤ 349526 → HasRead file.bytes first count pages → IsTrue file.tells
    → HasAreas pages first count to old new → ShowsCells (slice_index (single_state file).bytes) first count to old new
areas-shown file pages first count to old new most read tells areas = record {
  inside = λ i low.
      let raw = file.bytes in
      let j = i / 3168 in
      let number : (3168 * first + i) / 3168 ≡ first + j = omega arith in
      let rest : (3168 * first + i) % 3168 ≡ i % 3168 = omega arith in
      let page = part_of pages (4096 * j) 4096 in
      let is : part_of raw (4096 * ((3168 * first + i) / 3168)) 4096 ≡ page =
      ap (λ n. part_of raw (4096 * n) 4096) number ∙ sym (page-read raw pages first count j read (omega arith)) in
      areas.inside i low
      ∙ sym (at-single file (3168 * first + i) tells (omega arith)
      ∙ byte_in-page raw page (3168 * first + i) is
      ∙ ap (λ n. slice_index (area_of n page) ((3168 * first + i) % 3168)) number
      ∙ ap (λ n. slice_index (area_of (first + j) page) n) rest);
  others = areas.others;
}

pub shows : (old new : HostFileState) (pages : List ℕ) (first count to : ℕ) (areas into : List ℕ) (all : Bool)
    → KeepsBytes old new → new.faults ≡ old.faults → first + count ≤ 349526
    → (IsTrue old.tells → HasRead old.bytes first count pages) → length into ≡ length areas
    → (IsTrue all → HasAreas pages first count to areas into)
    → Shows (single_state old) (single_state new) first count to areas into (Ok all)
shows old new pages first count to areas into all keeps no_fault most read len has = record {
  keeps = keeps-single old new keeps;
  len = len;
  cells = λ told tells. areas-shown old pages first count to areas into most (read tells) tells (has told);
  cause = tt;
  no_fault = no_fault;
}

pub pages-told : (old new : HostFileState) (fresh all : Bool) (pages : List ℕ) (first count : ℕ) → KeepsBytes old new
    → (IsTrue old.tells → HasRead old.bytes first count pages)
    → (IsTrue all → IsFalse fresh → HasTold pages first count)
    → IsTrue all → (j : ℕ) → j < count → SingleTold new fresh (first + j)
pages-told old new fresh all pages first count keeps read told is j low old_file tells =
    let F : List ℕ → Type 0 = λ l. IsTold (first + j) (part_of l (4096 * (first + j)) 4096) in
    let told_then : IsTrue old.tells = sym keeps.tells ∙ tells in
    subst F (sym keeps.bytes)
    (subst (λ (page : List ℕ). IsTold (first + j) page) (page-read old.bytes pages first count j (read told_then) low)
    (told is old_file j low))

pub told-stays : (old new : HostFileState) (fresh : Bool) (p : ℕ) → KeepsBytes old new → SingleTold old fresh p
    → SingleTold new fresh p
told-stays old new fresh p keeps told old_file tells =
    let F : List ℕ → Type 0 = λ l. IsTold p (part_of l (4096 * p) 4096) in
    subst F (sym keeps.bytes) (told old_file (sym keeps.tells ∙ tells))

pub rests-stay : (old new : HostFileState) (p : ℕ) → KeepsBytes old new → SingleRests old p → SingleRests new p
rests-stay old new p keeps rests tells k low =
    ap (λ l. slice_index l (4096 * p + k)) keeps.durable ∙ rests (sym keeps.tells ∙ tells) k low
    ∙ sym (ap (λ l. slice_index l (4096 * p + k)) keeps.bytes)

-- Pages that were put

partly : (at : ℕ) (part a b : List ℕ) (tells : Bool) (r : Result (Unit {0}) Failed)
    → OnOk r (IsTrue tells → IsPut at part a b) → OnErr r (IsTrue tells → IsPartlyPut at part a b) → IsTrue tells
    → IsPartlyPut at part a b
partly at part a b tells (Ok u) put err is = whole-partly at part a b (put is)
partly at part a b tells (Err e) put err is = err is

on-ok : {P Q : Type 0} (r : Result (Unit {0}) Failed) → (P → Q) → OnOk r P → OnOk r Q
on-ok (Ok u) goes p = goes p
on-ok (Err e) goes p = tt

module _ (old new : HostFileState) (first count : ℕ) (areas pages : List ℕ) (r : Result (Unit {0}) Failed)
    (most : first + count ≤ 349526) (keeps : KeepsDurable old new)
    (put : OnOk r (IsTrue old.tells → IsPut (4096 * first) (take (4096 * count) pages) old.bytes new.bytes))
    (err : OnErr r (IsTrue old.tells → IsPartlyPut (4096 * first) (take (4096 * count) pages) old.bytes new.bytes))
  where
    short : (partly : IsPartlyPut (4096 * first) (take (4096 * count) pages) old.bytes new.bytes)
        → length (take partly.count (take (4096 * count) pages)) ≤ 4096 * count
    short partly =
        let most = length-take-most (4096 * count) pages in
        let fits = partly.fits in
        let size = length-take-le partly.count (take (4096 * count) pages) fits in
        omega arith

    others : IsTrue old.tells → (k : ℕ) → (k < 3168 * first) ⊎ (3168 * first + 3168 * count ≤ k)
        → slice_index (single_state new).bytes k ≡ slice_index (single_state old).bytes k
    others tells k apart =
        let did = partly (4096 * first) (take (4096 * count) pages) old.bytes new.bytes old.tells r put err tells in
        elim (cases_lt k 1107298368) [
          | inl low ↦ at-single new k (keeps.tells ∙ tells) low
              ∙ row-other old.bytes new.bytes (take did.count (take (4096 * count) pages)) first count k (short did)
              did.put apart
              ∙ sym (at-single old k tells low)
          | inr past ↦ past-single new k (keeps.tells ∙ tells) past ∙ sym (past-single old k tells past)
        ]

    pub puts : HasPages areas first count pages → 4096 * count ≤ length pages
        → OnErr r (Rose old.faults new.faults) → OnOk r (new.faults ≡ old.faults)
        → Puts (single_state old) (single_state new) first count areas r
    puts has fits cause no_fault = record {
      tells = keeps.tells;
      faults = keeps.faults;
      inside = on-ok r (λ (did : IsTrue old.tells
          → IsPut (4096 * first) (take (4096 * count) pages) old.bytes new.bytes) tells k low.
          let index : 3168 * first + k - 3168 * first ≡ k = omega arith in
          at-single new (3168 * first + k) (keeps.tells ∙ tells) (omega arith)
          ∙ row-put old.bytes new.bytes areas pages first count (3168 * first + k) has fits most (did tells)
          (omega arith) (omega arith)
          ∙ ap (slice_index areas) index) put;
      others = others;
      cause = cause;
      no_fault = no_fault;
    }

    pub rests-others : (p : ℕ) → (p < first) ⊎ (first + count ≤ p) → SingleRests old p → SingleRests new p
    rests-others p apart rests tells k low =
        let told : IsTrue old.tells = sym keeps.tells ∙ tells in
        let did = partly (4096 * first) (take (4096 * count) pages) old.bytes new.bytes old.tells r put err told in
        let size = short did in
        let at = 4096 * p + k in
        ap (λ l. slice_index l at) keeps.durable ∙ rests told k low
        ∙ sym (elim apart [
          | inl before ↦ did.put.before at (omega arith)
          | inr behind ↦ did.put.behind at (omega arith)
        ])

    pub writes : HasPages areas first count pages → 4096 * count ≤ length pages → IsTrue old.tells
        → WritesPages old.bytes new.bytes first count areas
    writes has fits tells =
        let did = partly (4096 * first) (take (4096 * count) pages) old.bytes new.bytes old.tells r put err tells in
        let size = short did in
        let most = did.fits in
        let whole = length-take-le (4096 * count) pages fits in
        let part = length-take-le did.count (take (4096 * count) pages) most in
        record {
          inside = λ j low i small.
              let k = 4096 * j + i in
              let place : 4096 * (first + j) + i ≡ 4096 * first + k = omega arith in
              elim (cases_lt k did.count) [
                | inl put_there ↦ inr (ap (slice_index new.bytes) place ∙ did.put.inside k (omega arith)
                    ∙ get_or-take did.count (take (4096 * count) pages) k 0 put_there
                    ∙ get_or-take (4096 * count) pages k 0 (omega arith)
                    ∙ sym (at-part_of pages (4096 * j) 4096 i small) ∙ ap (λ l. slice_index l i) (has j low))
                | inr beyond ↦ inl (did.put.behind (4096 * (first + j) + i) (omega arith))
              ];
          others = λ k apart. elim apart [
            | inl before ↦ did.put.before k before
            | inr behind ↦ did.put.behind k (omega arith)
          ];
        }
