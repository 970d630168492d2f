use Rattle.std.proofs.Common.{◌++◌, List, take, true, None}
use Rattle.nofs_history.specs.World.{World}
use Rattle.nofs_history.specs.Steps.{Made}
use Rattle.nofs_history.specs.declared.machine.replies.NameLine.{NameLine}
use Rattle.nofs_salvage.specs.Walk.Steps.{MakesReads}
use Rattle.nofs_salvage.specs.Report.Losses.{lines_losses, lines_folders}
use Rattle.nofs_salvage.specs.Walk.Answers.{AreAnswered}
use Rattle.nofs_salvage.specs.Report.Trees.{AreSeen, AddsFindings}
use Rattle.nofs_salvage.specs.Walk.Refusals.{MayAsk, AreFair}
use Rattle.nofs_salvage.specs.Report.Lines.{AreTold, AreFolders}
use Rattle.nofs_salvage.specs.Walk.Asks.{Asks, AreGiven, AreReached}
use Rattle.nofs_salvage.proofs.walk.lines.note_lines.Given as goal

abbrev pub invariant-loop-line : goal.invariant-loop-line
invariant-loop-line g l = record {
  reads : MakesReads (g.S.Steps.made l.initial.steps) (g.S.Steps.made l.steps) None;
  goes : g.S.Steps.goes l.initial.steps l.steps;
  names : (earlier : List NameLine) → AreSeen l.initial.seen earlier
      → AreSeen l.seen (earlier ++ take l.line-index l.lines);
  noted : (W : World) (earlier : List NameLine) → AreSeen l.initial.seen earlier
      → AreAnswered W (g.S.Steps.made l.initial.steps) (g.S.Steps.made l.steps)
      → AddsFindings (lines_losses W (g.R.NameRule.picks l.filter.rule) l.at.inode earlier (take l.line-index l.lines))
      (lines_folders W.files l.at.inode earlier (take l.line-index l.lines)) l.initial.findings l.findings;
  right : (W : World) (earlier : List NameLine) → AreSeen l.initial.seen earlier
      → AreAnswered W (g.S.Steps.made l.initial.steps) (g.S.Steps.made l.steps)
      → MayAsk W.files true l.at → AreTold W.files l.at.inode earlier l.lines
      → AreFair W.files (g.S.Steps.made l.initial.steps) (g.S.Steps.made l.steps);
  folders : (W : World) (earlier : List NameLine) → AreSeen l.initial.seen earlier
      → AreAnswered W (g.S.Steps.made l.initial.steps) (g.S.Steps.made l.steps)
      → AreTold W.files l.at.inode earlier l.lines → AreFolders W.files l.initial.findings.tree
      → AreFolders W.files l.findings.tree;
  asks : (first : List Made) → Asks first (g.S.Steps.made l.initial.steps)
      → AreGiven first (g.S.Steps.made l.initial.steps) l.at l.lines
      → Asks first (g.S.Steps.made l.steps);
  met : (first : List Made) → Asks first (g.S.Steps.made l.initial.steps)
      → AreGiven first (g.S.Steps.made l.initial.steps) l.at l.lines
      → AreReached first (g.S.Steps.made l.initial.steps) l.initial.findings.tree
      → AreReached first (g.S.Steps.made l.steps) l.findings.tree;
}
