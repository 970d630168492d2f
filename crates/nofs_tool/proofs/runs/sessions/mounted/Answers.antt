use Rattle.std.proofs.Common.{◌≡◌, ℕ, List, false, sym, subst}
use Rattle.nofs_client.specs.declared.task.lines.Line.{Line}
use Rattle.nofs_tool.specs.Session.Entries.{session_text}
use Rattle.nofs_tool.specs.Runs.Says.{Prints}
use Rattle.nofs_tool.specs.Session.Serve.{IsSessionRun}
use Rattle.nofs_tool.proofs.OnRuns.Said.{told-text}
use Rattle.std.specs.Prelude.{IfSome}
use Rattle.nofs_tool.specs.Runs.Headline.{IsHeadline}
use Rattle.nofs_tool.proofs.OnRuns.Headline.{headline-of}
use Rattle.nofs_tool.proofs.OnRuns.Outcomes.{run-ends}
use Rattle.nofs_tool.proofs.runs.sessions.mounted.Goals as goal

pub returns-clause-ends : goal.returns-clause-ends
returns-clause-ends g c =
    let e = c.written.ensures in
    run-ends g.D.Disk.state c.args.mount.found.value c.run_session.result.disk c.written.result.disk _ _
    c.args.mount.first c.written.result.status
    c.run_session.result.history _ e.disk.0 e.disk.1 c.run_session.ensures.ends e.named e.device e.faulty e.sink

pub returns-clause-headline : goal.returns-clause-headline
returns-clause-headline g c =
    let S = g.D.Disk.state in
    let m = c.args.mount in
    let found = S m.found.value in
    let ran = c.run_session.result in
    let w = c.written in
    let e = w.ensures in
    subst (λ (d : g.row.D.Denot). IfSome w.result.history
    (λ h. ∥ IsHeadline c.args.session found (S d) w.result.status h ∥₁)) (sym e.disk.0)
    (headline-of c.args.session found (S m.core.disk)
    (S ran.disk) m.first w.result.status m.core.books ran.text ran.history w.result.history c.requires.first
    e.disk.1 m.stands c.requires.raised c.run_session.ensures.ends c.run_session.ensures.follows
    c.run_session.ensures.closed e.unsaid
    (λ d. (e.done d).0))

pub returns-clause-part : goal.returns-clause-part
returns-clause-part g c = λ ended.
    let sink = g.K.Sink.state in
    let ran = c.run_session.result in
    let w = c.written in
    let e = w.ensures in
    let old = sink c.args.sink.now in
    let new = sink w.new.sink in
    told-text old new (λ text. (lines : List (List Line))
    × IsSessionRun c.args.session c.args.mount.core.books.at.inodes c.args.mount.core.books.at.blocks
    false lines
    ran.history.entries × (text ≡ session_text c.args.session ran.history.entries))
    (λ x. Prints old new (session_text c.args.session x.entries))
    ran.text ran.history
    w.result.history w.result.status e.disk.1 e.unsaid e.says c.run_session.ensures.ran
    (λ t told says. subst (λ (l : List ℕ). Prints old new l) told.2 says)
    ended
