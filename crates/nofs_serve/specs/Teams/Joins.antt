-- Passes that are joined one after another.
use Rattle.std.specs.Prelude.{◌≡◌, ℕ, true, List}
use mathlib.Core.List.{IsPrefix}
use Rattle.nofs_turn.specs.declared.rule.view.View.{View}
use Rattle.nofs_turn.specs.Lists.{rises, chosen}
use Rattle.nofs_turn.specs.Rule.Views.{joined}
use Rattle.nofs_history.specs.Steps.{Made}
use Rattle.nofs_history.specs.declared.machine.history.Entry1.{Entry1}
use Rattle.nofs_history.specs.Callers.{is_by}
use Rattle.nofs_shared.specs.Passes.Entries.{all_by, own_steps}

module _ {F : Type 0} where
  -- the pass w, whose entries are all its caller's, was joined to v
  pub record JoinsOwn (caller : ℕ) (v w u : View Entry1 F) : Type 0 where
    pub now : u ≡ joined v w
    pub own : all_by caller w.mine ≡ true
    pub rising : rises 0 v.mine ≡ true
    pub rising_own : rises 0 w.mine ≡ true
    pub knew : IsPrefix v.seen u.seen
    pub heard : IsPrefix w.seen u.seen

  -- the steps of a caller that a pass has made
  abbrev pub made_by : ℕ → View Entry1 F → List Made
  made_by c v = own_steps (chosen (is_by c) v.mine)

  -- the pass u stands for so many passes that began as v
  pub record Gathers (v u : View Entry1 F) (count : ℕ) : Type 0 where
    pub fixed : u.fixed ≡ v.fixed
    pub start : u.start ≡ v.start
    pub seats : u.seats ≡ v.seats
    pub stands : u.stands ≡ count
    pub seen : IsPrefix v.seen u.seen
