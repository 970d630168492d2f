-- The rule of the turn, and what each step tells.
-- Word 0 is twice the number of entries, and one more while the turn is taken. The value lies in slot 0.
use Rattle.std.specs.Prelude.{◌≡◌, ℕ, ◌+◌, ◌*◌, ◌%◌, ◌^◌, ◌<◌, ◌≤◌, ◌⊎◌, true, List, [], ◌∷◌, length, Option, Some}
use mathlib.Core.Option.{Option as Home, some}
use mathlib.Core.List.{IsPrefix}
use lib.ListN.{get_elem?}
use Rattle.atomic_table.specs.Table.{State, Me, Step}
use Rattle.nofs_turn.specs.declared.rule.view.View.{View}
use Rattle.nofs_turn.specs.Lists.{times, total, once, Rises, rises, Stands}
use Rattle.nofs_turn.specs.Rule.Views.{spent, looked, took, gave, settled}

-- the part of a view that no step changes is that of its turn
pub record IsOfTurn {F : Type 0} (f : F) (start seats : ℕ) (part : Option F) (first many : ℕ) : Type 0 where
  pub same_fixed : part ≡ Some f
  pub same_start : first ≡ start
  pub same_seats : many ≡ seats

-- what the rule says of the view of a seat that is not spent
pub record SeatFits {
    E F : Type 0
    } (f : F) (start seats : ℕ) (log : List E) (taken holder j : ℕ) (v : View E F) : Type 0 where
  pub of_turn : IsOfTurn f start seats v.fixed v.start v.seats
  pub open of_turn use *
  pub seen : IsPrefix v.seen log
  pub heard : IsPrefix v.heard log
  pub rising : Rises 0 (length log) v.mine
  pub mine : Stands log v.mine
  pub stands : 0 < v.stands
  pub turn : v.has ≡ true → (taken ≡ 1) × (j ≡ holder) × (v.seen ≡ log)

abbrev pub Sits : {E F : Type 0} → F → ℕ → ℕ → List E → ℕ → ℕ → ℕ → View E F → Type 0
Sits f start seats log taken holder j v = (v ≡ spent) ⊎ SeatFits f start seats log taken holder j v

-- the word counts the entries, and the value is at home unless the turn is taken
pub record CountHolds {T E F : Type 0} (entries : T → List E) (fixed : T → F) (f : F) (start : ℕ) (ws : List ℕ)
    (homes : List (Home (Option T))) : Type 0 where
  pub log : List E
  pub taken : ℕ
  pub holder : ℕ
  pub bit : taken < 2
  pub words : ws ≡ (2 * length log + taken) ∷ []
  pub small : length log < 2 ^ 63
  pub grown : start ≤ length log
  pub home : taken ≡ 0 → (x : T) × (homes ≡ some (Some x) ∷ []) × (entries x ≡ log) × (fixed x ≡ f)

pub record TurnHolds {
    T E F : Type 0
    } (entries : T → List E) (fixed : T → F) (f : F) (start seats : ℕ) (s : State (Option T) (View E F)) : Type 0 where
  pub count : CountHolds entries fixed f start s.words s.homes
  pub open count use *
  pub holds : taken ≡ 1 → (h : View E F) × (get_elem? s.views holder ≡ some h) × (h.has ≡ true)
  pub each : (j : ℕ) (v : View E F) → get_elem? s.views j ≡ some v → Sits f start seats log taken holder j v
  pub all_places : (x : ℕ) → total (λ (v : View E F). times x v.mine) s.views ≡ once start (length log) x
  pub passes : total (λ (v : View E F). v.stands + v.splits) s.views ≡ seats

module _ {T E F : Type 0} where
  -- n is at least twice the number of entries seen
  abbrev pub Looks : Step (Option T) → Me (Option T) (View E F) → ℕ → Me (Option T) (View E F) → Type 0
  Looks st me found after = (after ≡ (looked me.0 found, me.1)) × (2 * length me.0.seen ≤ found)

  abbrev pub TakesFree : (T → List E) → (T → F) → View E F → ℕ → Me (Option T) (View E F) → Type 0
  TakesFree entries fixed v found after =
      (x : T) × (found ≡ 2 * length (entries x)) × (after ≡ (took v found (entries x), (0, Some x) ∷ []))
      × IsPrefix v.seen (entries x) ×
      (v.fixed ≡ Some (fixed x)) × (length (entries x) < 2 ^ 63)

  abbrev pub TakesBusy : View E F → ℕ → Me (Option T) (View E F) → Type 0
  TakesBusy v found after = (found % 2 ≡ 1) × (after ≡ (looked v found, [])) × (v.stands < v.seats)

  abbrev pub Takes : (T → List E) → (T → F) → Step (Option T) → Me (Option T) (View E F)
      → ℕ → Me (Option T) (View E F) → Type 0
  Takes entries fixed st me found after = TakesFree entries fixed me.0 found after ⊎ TakesBusy me.0 found after

  -- the value that goes home is the one that the seat carries
  abbrev pub Gives : (T → List E) → Step (Option T) → Me (Option T) (View E F) → ℕ → Me (Option T) (View E F) → Type 0
  Gives entries st me stored after = (y : T) → me.1 ≡ (0, Some y) ∷ [] → (after ≡ (gave me.0 (entries y), []))
      × (rises 0 after.0.mine ≡ true)

  -- what was heard counts as seen, and what was seen and heard are beginnings of it
  abbrev pub Settles : Step (Option T) → Me (Option T) (View E F) → ℕ → Me (Option T) (View E F) → Type 0
  Settles st me found after = (after ≡ (settled me.0, me.1)) × IsPrefix me.0.seen after.0.seen
      × IsPrefix me.0.heard after.0.seen ×
      (rises 0 me.0.mine ≡ true) × (me.0.stands ≤ me.0.seats)
