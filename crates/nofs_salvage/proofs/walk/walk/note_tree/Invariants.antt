use Rattle.std.proofs.Common.{◌-◌, ◌^◌, List, None}
use Rattle.nofs_history.specs.World.{World}
use Rattle.nofs_history.specs.Steps.{Made}
use Rattle.nofs_salvage.specs.Walk.Steps.{MakesReads}
use Rattle.nofs_salvage.specs.Walk.Answers.{AreAnswered}
use Rattle.nofs_salvage.specs.Walk.Refusals.{HasRoots, AreFair}
use Rattle.nofs_salvage.specs.Report.Lines.{AreFolders, IsRooted}
use Rattle.nofs_salvage.specs.Walk.Asks.{Asks, AreReached}
use Rattle.nofs_salvage.proofs.OnReport.Trees.{IsGrown}
use Rattle.nofs_salvage.proofs.walk.walk.note_tree.Given as goal

abbrev pub invariant-loop-directory : goal.invariant-loop-directory
invariant-loop-directory g l = record {
  reads : MakesReads (g.S.Steps.made l.initial.steps) (g.S.Steps.made l.steps) None;
  goes : g.S.Steps.goes l.initial.steps l.steps;
  grown : (W : World) → AreAnswered W (g.S.Steps.made l.initial.steps) (g.S.Steps.made l.steps)
      → IsGrown W (g.R.NameRule.picks l.filter.rule) l.at l.initial.findings.report l.findings;
  right : (W : World) → HasRoots W.files → AreAnswered W (g.S.Steps.made l.initial.steps) (g.S.Steps.made l.steps)
      → AreFair W.files (g.S.Steps.made l.initial.steps) (g.S.Steps.made l.steps);
  folders : (W : World) → HasRoots W.files → AreAnswered W (g.S.Steps.made l.initial.steps) (g.S.Steps.made l.steps)
      → AreFolders W.files l.findings.tree;
  rooted : (W : World) → AreAnswered W (g.S.Steps.made l.initial.steps) (g.S.Steps.made l.steps)
      → IsRooted W.files l.at l.findings.tree;
  asks : (first : List Made) → Asks first (g.S.Steps.made l.initial.steps) → Asks first (g.S.Steps.made l.steps);
  met : (first : List Made) → Asks first (g.S.Steps.made l.initial.steps)
      → AreReached first (g.S.Steps.made l.steps) l.findings.tree;
}

abbrev pub decreases-loop-directory : goal.decreases-loop-directory
decreases-loop-directory g l = 2 ^ 64 - l.at
