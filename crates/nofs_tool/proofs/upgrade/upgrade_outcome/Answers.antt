use Rattle.std.proofs.Common.{inl, inr, Err, sym, ap, ◌∙◌, subst}
use Rattle.nofs_tool.specs.Begin.Lines.{upgrade_line}
use Rattle.nofs_tool.specs.Upgrade.{UpgradeFails}
use Rattle.nofs_tool.proofs.OnRuns.Said.{silent-upgrade}
use Rattle.nofs_tool.proofs.upgrade.upgrade_outcome.Goals as goal

pub returns-in-Ok-clause-says : goal.returns-in-Ok-clause-says
returns-in-Ok-clause-says g c = inl (c.said.ensures.named, c.in-Ok.ensures.upgraded, c.said.ensures.says)

pub returns-in-Err-clause-says : goal.returns-in-Err-clause-says
returns-in-Err-clause-says g c =
    let S = g.D.Disk.state in inr (
      c.in-Err.why,
      subst (λ (d : g.row.D.Denot). UpgradeFails (S c.args.disk) (S d) c.in-Err.why) (sym c.told_line.ensures.is.1)
          (record { stopped = λ e. c.in-Err.ensures.stopped (ap Err e); refused = λ e. c.in-Err.ensures.refused e }),
      sym (c.told_line.ensures.is.0 ∙ c.status_of.ensures),
      c.told_line.ensures.says (upgrade_line c.in-Err.why) c.upgrade_text.ensures,
    )

pub returns-in-Err-clause-silent : goal.returns-in-Err-clause-silent
returns-in-Err-clause-silent g c = silent-upgrade c.in-Err.why _ _ _ _ c.told_line.ensures.is.0 c.status_of.ensures
    (c.told_line.ensures.says (upgrade_line c.in-Err.why) c.upgrade_text.ensures)
