use Rattle.std.proofs.Common.{◌≡◌, ◌≤◌, ◌++◌, List, false, None}
use Rattle.nofs_history.specs.Refusals.{slots}
use Rattle.nofs_history.specs.World.{World}
use Rattle.nofs_history.specs.Steps.{Made}
use Rattle.nofs_salvage.specs.Walk.Steps.{MakesReads}
use Rattle.nofs_salvage.specs.Report.Losses.{lost_below}
use Rattle.nofs_salvage.specs.Walk.Answers.{AreAnswered}
use Rattle.nofs_salvage.specs.Walk.Refusals.{MayAsk, AreFair}
use Rattle.nofs_salvage.specs.Walk.Asks.{Asks, HasReached, HasTold}
use Rattle.nofs_salvage.proofs.walk.slots.note_slots.Given as goal

abbrev pub invariant-loop-slot : goal.invariant-loop-slot
invariant-loop-slot g l = record {
  reads : MakesReads (g.S.Steps.made l.initial.steps) (g.S.Steps.made l.steps) None;
  goes : g.S.Steps.goes l.initial.steps l.steps;
  noted : (W : World) → AreAnswered W (g.S.Steps.made l.initial.steps) (g.S.Steps.made l.steps)
      → (l.slot ≤ slots W) × (l.report ≡ l.initial.report ++ lost_below W.files l.at.inode l.slot);
  right : (W : World) → AreAnswered W (g.S.Steps.made l.initial.steps) (g.S.Steps.made l.steps)
      → MayAsk W.files false l.at
      → AreFair W.files (g.S.Steps.made l.initial.steps) (g.S.Steps.made l.steps);
  asks : (first : List Made) → Asks first (g.S.Steps.made l.initial.steps)
      → HasReached first (g.S.Steps.made l.initial.steps) l.at
      → HasTold first (g.S.Steps.made l.initial.steps) l.at l.size → Asks first (g.S.Steps.made l.steps);
  told : (first : List Made) → HasTold first (g.S.Steps.made l.initial.steps) l.at l.size
      → HasTold first (g.S.Steps.made l.steps) l.at l.size;
}
