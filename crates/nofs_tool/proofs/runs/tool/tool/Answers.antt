use Rattle.std.proofs.Common.{◌≡◌, Option, Some, None, map, string_bytes, sym, ap, ◌∙◌, subst}
use Rattle.nofs_io.specs.declared.texts.TheConstants.{TEXT_LIMIT}
use Rattle.nofs_tool.specs.declared.begin.words.Request.{Request}
use Rattle.nofs_tool.specs.declared.begin.words.Request.TheVariants.{Upgrade, Wire}
use Rattle.nofs_tool.specs.Begin.Words.{task_in}
use Rattle.nofs_tool.specs.Runs.Said.{Said}
use Rattle.nofs_tool.specs.Runs.Statuses.{KeepsDevice}
use Rattle.nofs_tool.specs.Runs.Tool.{IsRefusedTask}
use Rattle.nofs_tool.proofs.OnRuns.Complete.{ready-as, scan-completes, session-completes, upgrade-completes}
use Rattle.nofs_tool.proofs.OnVisits.Wire.{wire-completes}
use Rattle.nofs_tool.proofs.OnRuns.Outcomes.{upgrade-keeps}
use Rattle.nofs_tool.proofs.runs.tool.tool.Goals as goal

pub returns-in-Some-Run-clause-complete : goal.returns-in-Some-Run-clause-complete
returns-in-Some-Run-clause-complete g c = λ ready none.
    let r = ready-as _ _ _ _ _ _ c.task_of.ensures (c.in-Some-Run.is ∙ ap Some c.in-Some-Run.field-0-is) ready in
    let e = c.source_outcome-in-Some-Run.ensures in
    session-completes None _ _ _ _ _ _ _ _ _ none r.1 r.0 e.usage e.causes e.kept.refused

pub returns-in-Some-Scan-clause-complete : goal.returns-in-Some-Scan-clause-complete
returns-in-Some-Scan-clause-complete g c = λ ready none.
    let r = ready-as _ _ _ _ _ _ c.task_of.ensures (c.in-Some-Scan.is ∙ ap Some c.in-Some-Scan.field-0-is) ready in
    let e = c.scan_outcome.ensures.ends in
    scan-completes None _ _ TEXT_LIMIT _ _ _ _ _ _ none r e

pub returns-in-Some-Drill-clause-complete : goal.returns-in-Some-Drill-clause-complete
returns-in-Some-Drill-clause-complete g c = λ ready none.
    let r = ready-as _ _ _ _ _ _ c.task_of.ensures (c.in-Some-Drill.is ∙ ap Some c.in-Some-Drill.field-0-is) ready in
    let e = c.drill_outcome.ensures.ends in
    scan-completes (Some (record { blocks = 4096; inodes = 256 })) _ _ TEXT_LIMIT _ _ _ _ _ _ none r e

pub returns-in-Some-New-clause-complete : goal.returns-in-Some-New-clause-complete
returns-in-Some-New-clause-complete g c = λ ready none.
    let r = ready-as _ _ _ _ _ _ c.task_of.ensures (c.in-Some-New.is ∙ ap Some c.in-Some-New.field-0-is) ready in
    let e = c.source_outcome.ensures in
    session-completes (Some (record { blocks = c.in-Some-New.blocks; inodes = c.in-Some-New.inodes })) _ _ _ _ _ _ _
    _ _ none r.1 r.0
    e.usage e.causes e.kept.refused

pub returns-in-Some-Upgrade-clause-complete : goal.returns-in-Some-Upgrade-clause-complete
returns-in-Some-Upgrade-clause-complete g c = λ ready none.
    let r = ready-as _ _ _ _ _ _
    c.task_of.ensures (c.in-Some-Upgrade.is ∙ ap Some c.in-Some-Upgrade.field-0-is) ready in
    upgrade-completes _ _ _ _ _ _ _ none r c.upgrade_outcome.ensures.ends

pub returns-in-Some-Upgrade-clause-kept : goal.returns-in-Some-Upgrade-clause-kept
returns-in-Some-Upgrade-clause-kept g c =
    let task : task_in (map string_bytes c.args.words.now) ≡ Some Upgrade =
    sym c.task_of.ensures ∙ (c.in-Some-Upgrade.is ∙ ap Some c.in-Some-Upgrade.field-0-is) in
    let S = g.D.Disk.state in
    let K = g.K.Sink.state in
    let u = c.upgrade_outcome in
    subst (λ (t : Option Request). KeepsDevice (IsRefusedTask t (S c.args.disk) (S u.result.disk)) t c.args.disk
    u.result.disk u.result.status u.result.history)
    (sym task) (upgrade-keeps S c.args.disk u.result.disk (K c.args.sink.now)
    (K u.new.sink) u.result.status u.result.history u.ensures.history u.ensures.ends)

pub returns-in-Some-Salvage-clause-complete : goal.returns-in-Some-Salvage-clause-complete
returns-in-Some-Salvage-clause-complete g c = λ ready none.
    let r = ready-as _ _ _ _ _ _
    c.task_of.ensures (c.in-Some-Salvage.is ∙ ap Some c.in-Some-Salvage.field-0-is) ready in
    let e = c.salvage_outcome.ensures.ends in
    scan-completes None _ _ TEXT_LIMIT _ _ _ _ _ _ none r e

pub returns-in-Some-Wire-clause-complete : goal.returns-in-Some-Wire-clause-complete
returns-in-Some-Wire-clause-complete g c = λ ready none.
    let r = ready-as _ _ _ _ _ _ c.task_of.ensures (c.in-Some-Wire.is ∙ ap Some c.in-Some-Wire.field-0-is) ready in
    wire-completes _ _ _ _ _ _ _ _ none r.0 r.1 c.wire_outcome.ensures.ends

pub returns-in-Some-Wire-clause-said : goal.returns-in-Some-Wire-clause-said
returns-in-Some-Wire-clause-said g c =
    let task : task_in (map string_bytes c.args.words.now) ≡ Some Wire =
    sym c.task_of.ensures ∙ (c.in-Some-Wire.is ∙ ap Some c.in-Some-Wire.field-0-is) in
    let w = c.wire_outcome in
    let S = g.S.Source.state in
    let K = g.K.Sink.state in
    subst (λ (t : Option Request). Said t (S c.args.source.now) (S w.new.source) TEXT_LIMIT
    (K c.args.sink.now) (K w.new.sink)
    w.result.status w.result.history) (sym task) (record {
      usage = λ e. absurd (w.ensures.ends.named.1 e);
      source = λ e. tt;
      too_long = λ e. tt;
      script = λ e. tt;
      silent = λ e. tt;
      part = λ e x is. tt;
    })
