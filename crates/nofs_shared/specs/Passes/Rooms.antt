-- A step through a pass: the room for the entries of the sweeps, and what it did to the value behind the turn.
use Rattle.std.specs.Prelude.{◌≡◌, ℕ, ◌≤◌, true, List, Some}
use Rattle.nofs_turn.specs.declared.rule.view.View.{View}
use Rattle.nofs_turn.specs.Passes.{Ran, TellsDone}
use Rattle.nofs_history.specs.declared.machine.history.Entry1.{Entry1}
use Rattle.nofs_history.specs.declared.machine.steps.Step.{Step}
use Rattle.nofs_history.specs.declared.machine.replies.Reply.{Reply}
use Rattle.nofs_shared.specs.Acts.Sees.{FindsRoom, is_sweeper, sweep_entries}
use Rattle.nofs_shared.specs.Passes.Entries.{TellsStep}

module _ {T F : Type 0} (entries : T → List Entry1) (fixed : T → F) where
  -- One step of a caller was made at the turn, and nothing else. The list that it met begins with all that the pass had
  -- seen, its entry lies behind that whole list, and it found the room that was taken for it. From the value that it
  -- met to the one that it left it did what is said
  abbrev pub StepRan : (F → ℕ) → (T → T → Step → Reply → Type 0) → ℕ → Step → View Entry1 F → View Entry1 F → Reply
      → Type 0
  StepRan room does caller s v w r = Ran (TellsDone entries fixed
      (λ f xs ys q. TellsStep caller s xs ys q × FindsRoom (room f) caller s xs q) (λ x y q. does x y s q)) v w r

  -- Elements were looked at under the turn, and nothing else was done. It added no entry, and by it the value learned
  -- what is said
  abbrev pub LookRan : {Out : Type 0} → (T → T → Type 0) → View Entry1 F → View Entry1 F → Out → Type 0
  LookRan learns v w r = Ran (TellsDone entries fixed (λ f xs ys q. ys ≡ xs) (λ x y q. learns x y)) v w r

module _ {F : Type 0} (room : F → ℕ) where
  -- the pass is no sweeper's, or it has seen all the entries of the sweeps for which room was taken
  abbrev pub LacksRoom : ℕ → View Entry1 F → Type 0
  LacksRoom caller v = is_sweeper caller ≡ true → (f : F) × (v.fixed ≡ Some f) × (room f ≤ sweep_entries v.seen)
