use Rattle.std.proofs.Common.{◌∙◌, map, ap}
use Rattle.nofs_history.specs.HistoryState.{HistoryState}
use Rattle.nofs_client.proofs.OnDriver.{lines-follow}
use Rattle.nofs_tool.proofs.OnSession.Scripts.{unserved-follows}
use Rattle.nofs_tool.proofs.OnSession.Serve.{session-ends}
use Rattle.nofs_tool.proofs.session.serve.run_session.Goals as goal

pub returns-clause-ran : goal.returns-clause-ran
returns-clause-ran g c =
    let at = c.args.mount.core.books.at in
    let served = c.serve_and_close-mount.result in
    session-ends c.args.session (map (λ p. p.commands) c.in-Ok.plans.items) at.inodes at.blocks served.out_of_memory
    served.lines.items served.mount.core.books.history.entries c.ended-2.result.history.entries c.of_lines.result
    c.ended-2.result.text c.in-Ok.ensures.scripts c.if-out_of_memory.false
    (ap (λ (h : HistoryState). h.entries) c.ended-2.ensures.history) c.ended-2.ensures.text lines-follow
    c.serve_and_close-mount.ensures.ran c.of_lines.ensures

pub returns-in_default-clause-follows : goal.returns-in_default-clause-follows
returns-in_default-clause-follows g c =
    unserved-follows c.args.session c.args.mount.core.books.at c.ended.result.text c.ended.result.history.entries
    (ap (λ (h : HistoryState). h.entries) c.ended.ensures.history ∙ c.requires.new) c.ended.ensures.text
