use Rattle.std.proofs.Common.{◌≡◌, ◌<◌, ◌≤◌, ◌-◌, List, true, None}
use Rattle.nofs_history.specs.World.{World}
use Rattle.nofs_history.specs.Steps.{Made}
use Rattle.nofs_salvage.specs.Walk.Steps.{MakesReads}
use Rattle.nofs_salvage.specs.Walk.Answers.{AreAnswered}
use Rattle.nofs_salvage.specs.Report.Trees.{IsWalked}
use Rattle.nofs_salvage.specs.Walk.Refusals.{is_there, MayAsk, AreFair}
use Rattle.nofs_salvage.specs.Report.Lines.{AreFolders}
use Rattle.nofs_salvage.specs.Walk.Asks.{Asks, HasReached, AreReached}
use Rattle.nofs_salvage.proofs.walk.directories.note_folder.Given as goal

abbrev pub invariant-loop-slot : goal.invariant-loop-slot
invariant-loop-slot g l = record {
  reads : MakesReads (g.S.Steps.made l.initial.steps) (g.S.Steps.made l.steps) None;
  goes : g.S.Steps.goes l.initial.steps l.steps;
  below : l.slot ≤ 72;
  walked : (W : World) → AreAnswered W (g.S.Steps.made l.initial.steps) (g.S.Steps.made l.steps)
      → IsWalked W (g.R.NameRule.picks l.filter.rule) l.at.inode l.slot l.initial.findings l.findings l.seen;
  there : (W : World) → AreAnswered W (g.S.Steps.made l.initial.steps) (g.S.Steps.made l.steps) → 0 < l.slot
      → is_there W.files l.at.inode l.at.generation ≡ true;
  right : (W : World) → AreAnswered W (g.S.Steps.made l.initial.steps) (g.S.Steps.made l.steps)
      → MayAsk W.files true l.at
      → AreFair W.files (g.S.Steps.made l.initial.steps) (g.S.Steps.made l.steps);
  folders : (W : World) → AreAnswered W (g.S.Steps.made l.initial.steps) (g.S.Steps.made l.steps)
      → AreFolders W.files l.initial.findings.tree → AreFolders W.files l.findings.tree;
  asks : (first : List Made) → Asks first (g.S.Steps.made l.initial.steps)
      → HasReached first (g.S.Steps.made l.initial.steps) l.at
      → Asks first (g.S.Steps.made l.steps);
  met : (first : List Made) → Asks first (g.S.Steps.made l.initial.steps)
      → HasReached first (g.S.Steps.made l.initial.steps) l.at
      → AreReached first (g.S.Steps.made l.initial.steps) l.initial.findings.tree
      → AreReached first (g.S.Steps.made l.steps) l.findings.tree;
}

abbrev pub decreases-loop-slot : goal.decreases-loop-slot
decreases-loop-slot g l = 72 - l.slot
