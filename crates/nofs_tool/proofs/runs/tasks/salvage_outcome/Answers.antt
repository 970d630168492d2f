use Rattle.std.proofs.Common.{map, string_bytes, sym, subst, None}
use Rattle.std.specs.Prelude.{IfSome}
use Rattle.nofs_tool.specs.Runs.Headline.{IsHeadlineOf}
use Rattle.nofs_tool.specs.Visits.Salvage.{AreReads, IsSalvaged, SaysWalk}
use Rattle.nofs_tool.specs.Visits.Visit.{FollowsVisit}
use Rattle.nofs_tool.specs.Begin.Words.{picks_in}
use Rattle.nofs_tool.proofs.OnRuns.Headline.{visit-of}
use Rattle.nofs_tool.proofs.OnRuns.Outcomes.{old-ends}
use Rattle.nofs_tool.proofs.OnVisits.Salvage.{salvage-done, salvage-said}
use Rattle.nofs_tool.specs.Begin.Mounts.{HasNoMount}
use Rattle.nofs_tool.proofs.OnRuns.Said.{says-cause}
use Rattle.nofs_tool.proofs.runs.tasks.salvage_outcome.Goals as goal

pub returns-in-Ok-clause-headline : goal.returns-in-Ok-clause-headline
returns-in-Ok-clause-headline g c =
    let S = g.D.Disk.state in
    let m = c.in-Ok.mount in
    let w = c.written in
    let Promised : g.row.D.Denot → g.row.D.Denot → Type 0 = λ f d.
    IfSome w.result.history (λ h. ∥ IsHeadlineOf (FollowsVisit AreReads) (S f) (S d) w.result.status h ∥₁) in
    subst (λ f. Promised f w.result.disk) c.in-Ok.ensures.mount.0
    (subst (λ d. Promised m.found.value d) (sym w.ensures.disk.0)
    (visit-of AreReads (S m.found.value) (S m.core.disk)
    (S c.run_salvage.result.disk) m.first w.result.status m.core.books c.run_salvage.result.text
    c.run_salvage.result.history w.result.history c.in-Ok.ensures.mount.1 w.ensures.disk.1 m.stands
    c.in-Ok.ensures.raised
    c.run_salvage.ensures.ends c.run_salvage.ensures.follows
    c.run_salvage.ensures.closed w.ensures.unsaid (λ d. (w.ensures.done d).0)))

pub returns-in-Ok-clause-done : goal.returns-in-Ok-clause-done
returns-in-Ok-clause-done g c = λ done.
    let picks = picks_in (map string_bytes c.args.words.now) in
    let S = g.D.Disk.state in
    let sink = g.K.Sink.state in
    let m = c.in-Ok.mount in
    let ran = c.run_salvage.result in
    let w = c.written in
    let e = w.ensures in
    let d = e.done done in
    subst (λ (x : g.row.D.Denot). IsSalvaged picks (S x) w.result.history (sink c.args.sink.now) (sink w.new.sink))
    c.in-Ok.ensures.mount.0
    (salvage-done picks (S m.found.value) ran.text ran.history w.result.history (sink c.args.sink.now)
    (sink w.new.sink) e.disk.1 d.0 d.1 d.2
    c.run_salvage.ensures.told)

pub returns-in-Ok-clause-part : goal.returns-in-Ok-clause-part
returns-in-Ok-clause-part g c = λ ended.
    let picks = picks_in (map string_bytes c.args.words.now) in
    let S = g.D.Disk.state in
    let sink = g.K.Sink.state in
    let e = c.written.ensures in
    let w = c.written in
    let ran = c.run_salvage.result in
    subst (λ (x : g.row.D.Denot). SaysWalk picks (S x) w.result.history (sink c.args.sink.now) (sink w.new.sink))
    c.in-Ok.ensures.mount.0
    (salvage-said picks (S c.in-Ok.mount.found.value) ran.text ran.history w.result.history w.result.status
    (sink c.args.sink.now) (sink w.new.sink) e.disk.1 e.unsaid e.says c.run_salvage.ensures.told ended)

pub returns-in-Ok-clause-ends : goal.returns-in-Ok-clause-ends
returns-in-Ok-clause-ends g c = let e = c.written.ensures in
    old-ends g.D.Disk.state c.args.disk c.in-Ok.mount.found.value c.run_salvage.result.disk c.written.result.disk _ _
    c.in-Ok.mount.first
    c.written.result.status c.run_salvage.result.history _ c.in-Ok.ensures.mount.0 e.disk.0 e.disk.1
    c.run_salvage.ensures.ends e.named e.device e.faulty e.sink

pub returns-in-Err-clause-unserved : goal.returns-in-Err-clause-unserved
returns-in-Err-clause-unserved g c = λ none. let e = c.refused.ensures in
    says-cause (HasNoMount g.D.Disk.state None c.args.disk) _ _ c.in-Err.why.cause _ _ _ e.is.1 e.is.0
    c.in-Err.ensures.refused e.says
