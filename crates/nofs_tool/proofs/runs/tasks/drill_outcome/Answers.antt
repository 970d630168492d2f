use Rattle.std.proofs.Common.{ℕ, List, sym, subst, Some}
use Rattle.std.specs.Prelude.{IfSome}
use Rattle.nofs_tool.specs.Drill.{IsDrilled}
use Rattle.nofs_tool.specs.Runs.Headline.{FollowsDrill, IsHeadlineOf}
use Rattle.nofs_tool.specs.Runs.Says.{Prints}
use Rattle.nofs_tool.proofs.OnDrill.Ends.{drill-taken}
use Rattle.nofs_tool.proofs.OnRuns.Headline.{drill-headline, drill-of}
use Rattle.nofs_tool.proofs.OnRuns.Outcomes.{mounted-ends, run-ends}
use Rattle.nofs_tool.specs.Begin.Mounts.{HasNoMount}
use Rattle.nofs_tool.proofs.OnRuns.Said.{says-cause, told-text}
use Rattle.nofs_tool.proofs.runs.tasks.drill_outcome.Goals as goal

pub returns-in-Ok-clause-ends : goal.returns-in-Ok-clause-ends
returns-in-Ok-clause-ends g c =
    let e = c.written.ensures in
    mounted-ends (g.D.Disk.state c.args.disk)
    (g.D.Disk.state c.in-Ok.mount.found.value) _ _ _ c.written.result.status _ c.in-Ok.ensures.mount.2
    (run-ends g.D.Disk.state c.in-Ok.mount.found.value c.run_drill.result.disk c.written.result.disk _ _
    c.in-Ok.mount.first c.written.result.status
    c.run_drill.result.history _ e.disk.0 e.disk.1 c.run_drill.ensures.ends e.named e.device e.faulty e.sink)

pub returns-in-Ok-clause-headline : goal.returns-in-Ok-clause-headline
returns-in-Ok-clause-headline g c =
    let S = g.D.Disk.state in
    let m = c.in-Ok.mount in
    let w = c.written in
    drill-headline S c.args.start c.args.steps c.args.disk m.found.value (S w.result.disk)
    w.result.status w.result.history c.in-Ok.ensures.formatted c.in-Ok.ensures.met
    (subst (λ (d : g.row.D.Denot). IfSome w.result.history
    (λ h. ∥ IsHeadlineOf (FollowsDrill c.args.start c.args.steps) (S m.found.value) (S d)
    w.result.status h ∥₁)) (sym w.ensures.disk.0)
    (drill-of c.args.start c.args.steps (S m.found.value) (S m.core.disk) (S c.run_drill.result.disk)
    m.first w.result.status m.core.books c.run_drill.result.text c.run_drill.result.history w.result.history
    c.in-Ok.ensures.mount.0
    w.ensures.disk.1 m.stands c.in-Ok.ensures.raised c.run_drill.ensures.ends c.run_drill.ensures.follows
    c.run_drill.ensures.closed
    w.ensures.unsaid (λ d. (w.ensures.done d).0)))

pub returns-in-Ok-clause-done : goal.returns-in-Ok-clause-done
returns-in-Ok-clause-done g c =
    let e = c.written.ensures in
    λ fine. drill-taken c.args.start c.args.steps c.run_drill.result.history _ c.run_drill.result.text _ _ e.disk.1
    (e.done fine).0 (e.done fine).1
    (e.done fine).2 c.run_drill.ensures.drilled

pub returns-in-Err-clause-unserved : goal.returns-in-Err-clause-unserved
returns-in-Err-clause-unserved g c = λ none. let e = c.refused.ensures in
    says-cause (HasNoMount g.D.Disk.state (Some (record { blocks = 4096; inodes = 256 })) c.args.disk) _ _
    c.in-Err.why.cause _ _ _ e.is.1 e.is.0
    c.in-Err.ensures.unmounted e.says

pub returns-in-Ok-clause-part : goal.returns-in-Ok-clause-part
returns-in-Ok-clause-part g c = λ ended.
    let sink = g.K.Sink.state in
    let w = c.written in
    let ran = c.run_drill.result.history in
    told-text (sink c.args.sink.now) (sink w.new.sink) (IsDrilled c.args.start c.args.steps ran.entries)
    (λ x. (text : List ℕ) × IsDrilled c.args.start c.args.steps x.entries text
    × Prints (sink c.args.sink.now) (sink w.new.sink) text)
    c.run_drill.result.text ran w.result.history w.result.status w.ensures.disk.1 w.ensures.unsaid w.ensures.says
    c.run_drill.ensures.drilled (λ t has said. (t, has, said)) ended
