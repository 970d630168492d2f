use Rattle.std.proofs.Common.{[], sym, subst, None}
use Rattle.std.specs.Prelude.{IfSome}
use Rattle.nofs_tool.specs.Runs.Headline.{IsHeadline}
use Rattle.nofs_tool.specs.Session.Counts.{IsScanned, SaysCounts}
use Rattle.nofs_tool.proofs.OnSession.Counts.{scan-done, scan-said}
use Rattle.nofs_tool.proofs.OnRuns.Headline.{headline-of, old-headline}
use Rattle.nofs_tool.proofs.OnRuns.Outcomes.{old-ends}
use Rattle.nofs_tool.specs.Begin.Mounts.{HasNoMount}
use Rattle.nofs_tool.proofs.OnRuns.Said.{says-cause}
use Rattle.nofs_tool.proofs.runs.tasks.scan_outcome.Goals as goal

pub returns-in-Ok-clause-ends : goal.returns-in-Ok-clause-ends
returns-in-Ok-clause-ends g c = let e = c.written.ensures in
    old-ends g.D.Disk.state c.args.disk c.in-Ok.mount.found.value c.run_scan.result.disk c.written.result.disk _ _
    c.in-Ok.mount.first c.written.result.status
    c.run_scan.result.history _ c.in-Ok.ensures.mount.0 e.disk.0 e.disk.1 c.run_scan.ensures.ends e.named
    e.device e.faulty e.sink

pub returns-in-Ok-clause-headline : goal.returns-in-Ok-clause-headline
returns-in-Ok-clause-headline g c =
    let S = g.D.Disk.state in
    let m = c.in-Ok.mount in
    let w = c.written in
    old-headline S [] c.args.disk m.found.value
    (S w.result.disk) w.result.status w.result.history c.in-Ok.ensures.mount.0
    (subst (λ (d : g.row.D.Denot). IfSome w.result.history
    (λ h. ∥ IsHeadline [] (S m.found.value) (S d) w.result.status h ∥₁)) (sym w.ensures.disk.0)
    (headline-of [] (S m.found.value) (S m.core.disk)
    (S c.run_scan.result.disk) m.first w.result.status m.core.books c.run_scan.result.text
    c.run_scan.result.history w.result.history c.in-Ok.ensures.mount.1 w.ensures.disk.1 m.stands c.in-Ok.ensures.raised
    c.run_scan.ensures.ends
    c.run_scan.ensures.follows
    c.run_scan.ensures.closed w.ensures.unsaid (λ d. (w.ensures.done d).0)))

pub returns-in-Ok-clause-done : goal.returns-in-Ok-clause-done
returns-in-Ok-clause-done g c = λ done.
    let S = g.D.Disk.state in
    let sink = g.K.Sink.state in
    let m = c.in-Ok.mount in
    let w = c.written in
    let e = w.ensures in
    let d = e.done done in
    subst (λ (x : g.row.D.Denot). IsScanned (S c.args.disk) (S x) w.result.history (sink c.args.sink.now)
    (sink w.new.sink)) (sym e.disk.0)
    (subst (λ (x : g.row.D.Denot). IsScanned (S x) (S c.run_scan.result.disk) w.result.history (sink c.args.sink.now)
    (sink w.new.sink))
    c.in-Ok.ensures.mount.0
    (scan-done (S m.found.value)
    (S c.run_scan.result.disk) c.run_scan.result.text c.run_scan.result.history w.result.history (sink c.args.sink.now)
    (sink w.new.sink) e.disk.1 d.0 d.1 d.2 c.run_scan.ensures.counted))

pub returns-in-Err-clause-unserved : goal.returns-in-Err-clause-unserved
returns-in-Err-clause-unserved g c = λ none. let e = c.refused.ensures in
    says-cause (HasNoMount g.D.Disk.state None c.args.disk) _ _ c.in-Err.why.cause _ _ _ e.is.1 e.is.0
    c.in-Err.ensures.refused e.says

pub returns-in-Ok-clause-part : goal.returns-in-Ok-clause-part
returns-in-Ok-clause-part g c = λ ended.
    let S = g.D.Disk.state in
    let sink = g.K.Sink.state in
    let w = c.written in
    let e = w.ensures in
    let ran = c.run_scan.result in
    let Said : g.row.D.Denot → g.row.D.Denot → Type 0 = λ f d.
    SaysCounts (S f) (S d) w.result.history (sink c.args.sink.now) (sink w.new.sink) in
    subst (λ d. Said c.args.disk d) (sym e.disk.0) (subst (λ f. Said f ran.disk) c.in-Ok.ensures.mount.0
    (scan-said (S c.in-Ok.mount.found.value) (S ran.disk) ran.text ran.history w.result.history w.result.status
    (sink c.args.sink.now) (sink w.new.sink) e.disk.1 e.unsaid e.says c.run_scan.ensures.counted ended))
