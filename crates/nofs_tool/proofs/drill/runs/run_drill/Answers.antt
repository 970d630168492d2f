use Rattle.std.proofs.Common.{map, ap, ◌∙◌}
use Rattle.nofs_history.specs.HistoryState.{HistoryState}
use Rattle.nofs_client.proofs.OnDriver.{lines-follow}
use Rattle.nofs_tool.proofs.OnDrill.Ends.{drill-ends}
use Rattle.nofs_tool.proofs.OnDrill.Follows.{drill-follows, drill-unserved}
use Rattle.nofs_tool.proofs.drill.runs.run_drill.Goals as goal

pub returns-in-Ok-clause-drilled : goal.returns-in-Ok-clause-drilled
returns-in-Ok-clause-drilled g c =
    let at = c.args.mount.core.books.at in
    let served = c.serve_users.result in
    let ran = c.read_and_close.result in
    drill-ends c.args.start c.args.steps at.inodes at.blocks served.out_of_memory served.lines.items
    (map (λ p. p.commands) c.in-Ok.plans.items)
    c.args.mount.core.books.history.entries served.mount.core.books.history.entries ran.history.entries ran.text
    lines-follow c.in-Ok.ensures.scripts
    c.requires.new c.serve_users.ensures.served c.read_and_close.ensures.out

pub returns-in-Ok-clause-follows : goal.returns-in-Ok-clause-follows
returns-in-Ok-clause-follows g c =
    let served = c.serve_users.result in
    let ran = c.read_and_close.result in
    drill-follows c.args.start c.args.steps c.args.mount.core.books.at served.out_of_memory served.lines.items
    (map (λ p. p.commands) c.in-Ok.plans.items)
    c.args.mount.core.books.history.entries served.mount.core.books.history.entries ran.history.entries ran.text
    c.in-Ok.ensures.scripts c.requires.new c.serve_users.ensures.served
    (c.serve_users.ensures.swept c.requires.new)
    c.read_and_close.ensures.follows

pub returns-in-Err-clause-follows : goal.returns-in-Err-clause-follows
returns-in-Err-clause-follows g c =
    drill-unserved c.args.start c.args.steps c.args.mount.core.books.at c.ended.result.text
    c.ended.result.history.entries
    (ap (λ (h : HistoryState). h.entries) c.ended.ensures.history ∙ c.requires.new) c.ended.ensures.text
