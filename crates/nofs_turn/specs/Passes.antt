-- What a pass knows, and what a call tells it.
use Rattle.std.specs.Prelude.{◌≡◌, ℕ, ◌+◌, ◌*◌, ◌^◌, ◌<◌, ◌≤◌, List, [], ◌∷◌, ◌++◌, length, drop, Option, Some}
use mathlib.Core.List.{IsPrefix}
use Rattle.atomic_table.specs.Table.{Me}
use Rattle.nofs_turn.specs.declared.rule.view.View.{View}
use Rattle.nofs_turn.specs.Lists.{numbered}
use Rattle.nofs_turn.specs.Rule.Views.{gave}

-- A section met a value of this part and this list, and left one of that list: what it did to the value
pub record Did {
    T E F Out : Type 0
    } (entries : T → List E) (fixed : T → F) (does : T → T → Out → Type 0) (f : F) (before after : List E) (out : Out)
    : Type 0 where
  pub met : T
  pub left : T
  pub met_part : fixed met ≡ f
  pub left_part : fixed left ≡ f
  pub met_list : entries met ≡ before
  pub left_list : entries left ≡ after
  pub did : does met left out

-- what a section tells of the part and of the lists, and what it did to the value
abbrev pub TellsDone : {T E F Out : Type 0} → (T → List E) → (T → F) → (F → List E → List E → Out → Type 0)
    → (T → T → Out → Type 0) → F → List E → List E → Out → Type 0
TellsDone entries fixed tells does f before after out =
    tells f before after out × Did entries fixed does f before after out

-- One section ran between the views v and w, and no other. It answered out, met the list `before` and left `after`
pub record Ran {
    E F Out : Type 0
    } (tells : F → List E → List E → Out → Type 0) (v w : View E F) (out : Out) : Type 0 where
  pub part : F
  pub before : List E
  pub after : List E
  pub looks_now : ℕ
  pub same_part : v.fixed ≡ Some part
  pub begins : IsPrefix v.seen before
  pub keeps : IsPrefix before after
  pub at_most_one : length after ≤ length before + 1
  pub told : tells part before after out
  pub looked_more : v.looks < looks_now
  pub now : w ≡ record v {
    seen = after;
    mine = v.mine ++ numbered (length before) (drop (length before) after);
    looks = looks_now;
    last = 2 * length before;
    runs = v.runs + 1;
  }

-- A section ran on the value x, and y is what it left. Beside its answer stands the number of entries
pub record RanOnce {
    T E F Out : Type 0
    } (entries : T → List E) (fixed : T → F) (tells : F → List E → List E → Out → Type 0)
    (does : T → T → Out → Type 0) (x y : T) (answer : Out × ℕ) : Type 0 where
  pub same_part : fixed y ≡ fixed x
  pub keeps : IsPrefix (entries x) (entries y)
  pub at_most_one : length (entries y) ≤ length (entries x) + 1
  pub told : tells (fixed x) (entries x) (entries y) answer.0
  pub did : does x y answer.0
  pub kept : answer.1 ≡ length (entries y)
  pub small : answer.1 < 2 ^ 63

-- the seat carries the value whose list its view has seen, and the section may run on it
abbrev pub Carries : {T E F : Type 0} → (T → List E) → (T → F) → (F → List E → Type 0)
    → Me (Option T) (View E F) → Type 0
Carries {T = T} entries fixed asks me = (x : T) × (me.1 ≡ (0, Some x) ∷ []) × (entries x ≡ me.0.seen)
    × (me.0.fixed ≡ Some (fixed x))
    × asks (fixed x) (entries x)

-- the section ran on the value whose list the view v had seen, and what it left was given back
abbrev pub HasRun : {T E F Out : Type 0} → (T → List E) → (T → F) → (F → List E → List E → Out → Type 0)
    → (T → T → Out → Type 0) → View E F → Out → Me (Option T) (View E F)
    → Type 0
HasRun {T = T} entries fixed tells does v out after = (x y : T) × (entries x ≡ v.seen) × (v.fixed ≡ Some (fixed x))
    × IsPrefix (entries x) (entries y)
    × (length (entries y) ≤ length (entries x) + 1) × tells (fixed x) (entries x) (entries y) out
    × Did entries fixed does (fixed x) (entries x) (entries y) out
    × (after ≡ (gave v (entries y), []))

-- what the pass v knows lets the section run
abbrev pub MayRun : {E F : Type 0} → (F → List E → Type 0) → View E F → Type 0
MayRun {F = F} asks v = (f : F) → v.fixed ≡ Some f → asks f v.seen

-- nothing but looks, which found the turn taken
abbrev pub Waited : {E F : Type 0} → View E F → View E F → Type 0
Waited v w = (v.looks ≤ w.looks) × (w ≡ record v { looks = w.looks; last = w.last })

-- The pass v gets the value at the end: it has the fixed part, the list begins with all that was seen, and the entries
-- from the start on are the pass's own
pub record Closes {T E F : Type 0} (entries : T → List E) (fixed : T → F) (v : View E F) (value : T) : Type 0 where
  pub same_part : v.fixed ≡ Some (fixed value)
  pub begins : IsPrefix v.seen (entries value)
  pub grown : v.start ≤ length (entries value)
  pub all_mine : v.mine ≡ numbered v.start (drop v.start (entries value))
