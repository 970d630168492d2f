-- The search through the calls for the cells that a block may hold.
use Rattle.std.proofs.Common.{◌≡◌, ℕ, ◌+◌, ◌<◌, ◌==◌, if◌then◌else◌, drop, true, false, List, [], ◌∷◌, ◌++◌, length}
use Rattle.std.proofs.Common.{take, get_or, set, arith, inl, inr, refl}
use Rattle.std.proofs.Common.{sym, ap, subst, ◌∙◌}
use Rattle.std.specs.Prelude.{eqb}
use Rattle.std.proofs.lemmas.Bool.{cases_eq, eq-eqb, ne_eqb}
use Rattle.std.proofs.lemmas.List.{drop_more, length-set, length_push, get_or_default, get_or_push, get_or-set_same}
use Rattle.std.proofs.lemmas.List.{get_or-set_other, take_more}
use Rattle.std.proofs.lemmas.List.{get_or_append_left}
use Rattle.nofs_disk.specs.declared.tag.Cell.{Cell}
use Rattle.nofs_disk.specs.Disk.{cell_at, no_cell}
use Rattle.nofs_versions.specs.declared.call.Call.{Call}
use Rattle.nofs_versions.specs.declared.call.Call.TheVariants.{Write, Flush}
use Rattle.nofs_versions.specs.Memory.{IsSearch, after_call, count_after, held_after, picked, searched, settled}
use Rattle.nofs_versions.specs.declared.call.Pick.{Pick}
use Rattle.nofs_versions.specs.declared.search.Search.{Search}
use Rattle.nofs_disk.specs.Held.{Held, written, written_here, written_other}
use Rattle.nofs_versions.proofs.OnMemory.Cells.{held_after-push}

-- the number of cells that a block may hold, after one call more
pub count_step : (held : Held) (call : Call) (block : ℕ)
    → length ((after_call held call).may block) ≡ count_after block (length (held.may block)) call
count_step held (Write b cell true) block = elim (cases_eq block b) [
  | inl same ↦
      let e : eqb block b ≡ true = eq-eqb block b same in
      rw (e, length_push (held.may block) cell) refl
  | inr other ↦
      let e : eqb block b ≡ false = ne_eqb block b other in
      rw e refl
]
count_step held (Write b cell false) block = refl
count_step held (Flush true) block = refl
count_step held (Flush false) block = refl

pub count_more : (base : List Cell) (calls : List Call) (i block n : ℕ) (call : Call) → i < length calls
    → n ≡ length ((held_after base (take i calls)).may block) → call ≡ get_or calls i call
    → count_after block n call ≡ length ((held_after base (take (i + 1) calls)).may block)
count_more base calls i block n call low before is =
    ap (λ k. count_after block k call) before ∙ sym (count_step (held_after base (take i calls)) call block)
    ∙ ap (λ h. length (h.may block)) (sym (held_after-push base (take i calls) call))
    ∙ ap (λ l. length ((held_after base l).may block))
    (ap (λ x. take i calls ++ x ∷ []) is ∙ sym (take_more calls i call low))

pub count_seen : (base : List Cell) (seen calls : List Call) (i block n : ℕ) (d : Call) → seen ≡ calls → i < length seen
    → n ≡ length ((held_after base (take i calls)).may block)
    → count_after block n (get_or seen i d) ≡ length ((held_after base (take (i + 1) calls)).may block)
count_seen base seen calls i block n d same low before =
    let F : List Call → Type 0 = λ l. n ≡ length ((held_after base (take i l)).may block) in
    count_more base seen i block n (get_or seen i d) low (subst F (sym same) before)
    (get_or_default seen i d (get_or seen i d) low)
    ∙ ap (λ l. length ((held_after base (take (i + 1) l)).may block)) same

-- the search begins with the flushed cell
pub search_begins : (base : List Cell) (block version : ℕ) (first : Cell) → block < length base
    → first ≡ get_or base block first
    → IsSearch (held_after base []) block version (record { count = 1; last = first; found = first })
unfolding held_after
search_begins base block version first low is =
    let at : first ≡ cell_at base block = is ∙ get_or_default base block first no_cell low in
    record {
      count = refl;
      last = λ l. at;
      found = λ l v. let e : version ≡ 0 = omega arith in
          at ∙ ap (λ k. get_or (cell_at base block ∷ []) k no_cell) (sym e);
    }

-- a write to the block
search_wrote : (held : Held) (block version : ℕ) (cell : Cell) (s : Search) → IsSearch held block version s
    → IsSearch (written held block cell) block version
    (record { count = s.count + 1; last = cell; found = if s.count == version then cell else s.found })
search_wrote held block version cell s is =
    let may = written_here held block cell in
    record {
      count = let c = is.count in let l = length_push (held.may block) cell in let m = ap length may in omega arith;
      last = λ low.
          sym (get_or-set_same held.now block cell no_cell (let e = length-set held.now block cell in omega arith));
      found = λ low v. elim (cases_eq s.count version) [
        | inl same ↦
            rw (eq-eqb s.count version same) (sym (ap (λ l. get_or l version no_cell) may
            ∙ get_or_push (held.may block) cell no_cell version (let c = is.count in omega arith)))
        | inr other ↦
            rw (ne_eqb s.count version other)
            (is.found (let e = length-set held.now block cell in omega arith) (omega arith)
            ∙ sym (ap (λ l. get_or l version no_cell) may
            ∙ get_or_append_left (held.may block) (cell ∷ []) no_cell version (let c = is.count in omega arith)))
      ];
    }

-- a write to another block
search_other : (held : Held) (block at version : ℕ) (cell : Cell) (s : Search) → (block ≡ at → ⊥)
    → IsSearch held block version s
    → IsSearch (written held at cell) block version s
search_other held block at version cell s other is =
    let may = written_other held at block cell other in
    let now = get_or-set_other held.now at block cell no_cell other in
    record {
      count = is.count ∙ ap length (sym may);
      last = λ low. is.last (let e = length-set held.now at cell in omega arith) ∙ sym now;
      found = λ low v. is.found (let e = length-set held.now at cell in omega arith) v
          ∙ ap (λ l. get_or l version no_cell) (sym may);
    }

-- a flush
search_flushed : (held : Held) (block version : ℕ) (s : Search) → IsSearch held block version s
    → IsSearch (settled held.now) block version
    (record { count = 1; last = s.last; found = if version == 0 then s.last else s.found })
search_flushed held block version s is = record {
  count = refl;
  last = is.last;
  found = λ low v.
      let e : version ≡ 0 = omega arith in
      rw (eq-eqb version 0 e) (is.last low ∙ ap (λ k. get_or (cell_at held.now block ∷ []) k no_cell) (sym e));
}

pub search_step : (held : Held) (block version : ℕ) (s : Search) (call : Call) → IsSearch held block version s
    → IsSearch (after_call held call) block version (searched s block version call)
search_step held block version s (Write at cell true) is = elim (cases_eq at block) [
  | inl same ↦
      let F : ℕ → Type 0 = λ k. IsSearch (written held k cell) block version
      (record { count = s.count + 1; last = cell; found = if s.count == version then cell else s.found }) in
      rw (eq-eqb at block same) (subst F (sym same) (search_wrote held block version cell s is))
  | inr other ↦
      rw (ne_eqb at block other) (search_other held block at version cell s (λ e. other (sym e)) is)
]
search_step held block version s (Write at cell false) is = is
search_step held block version s (Flush true) is = search_flushed held block version s is
search_step held block version s (Flush false) is = is

pub search_more : (base : List Cell) (seen calls : List Call) (i block version : ℕ) (s : Search) (d : Call)
    → seen ≡ calls → i < length seen
    → IsSearch (held_after base (take i calls)) block version s
    → IsSearch (held_after base (take (i + 1) calls)) block version (searched s block version (get_or seen i d))
search_more base seen calls i block version s d same low is =
    let F : List Call → Type 0 = λ l. IsSearch (held_after base (take i l)) block version s in
    let G : Held → Type 0 = λ h. IsSearch h block version (searched s block version (get_or seen i d)) in
    let step = search_step (held_after base (take i seen)) block version s (get_or seen i d) (subst F (sym same) is) in
    let one : after_call (held_after base (take i seen)) (get_or seen i d) ≡ held_after base (take (i + 1) calls) =
    sym (held_after-push base (take i seen) (get_or seen i d)) ∙ ap (held_after base) (sym (take_more seen i d low))
    ∙ ap (λ l. held_after base (take (i + 1) l)) same in
    subst G one step

-- one pick more
pub picked_more : (may : ℕ → List Cell) (cells : List Cell) (picks : List Pick) (i : ℕ) (d : Pick) (c : Cell)
    → i < length picks
    → c ≡ get_or (may (get_or picks i d).block) (get_or picks i d).version no_cell
    → picked may (set cells (get_or picks i d).block c) (drop (i + 1) picks) ≡ picked may cells (drop i picks)
picked_more may cells picks i d c low is =
    ap (λ x. picked may (set cells (get_or picks i d).block x) (drop (i + 1) picks)) is
    ∙ ap (picked may cells) (sym (drop_more picks i d low))
