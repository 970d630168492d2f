use Rattle.std.proofs.Common.{rules, ◌≡◌, ◌∙◌, ap, true, false, List}
use Rattle.std.specs.Prelude.{count_by, sum_by}
use Rattle.nofs_history.specs.HistoryState.{HistoryState}
use Rattle.nofs_client.specs.declared.task.lines.Line.{Line}
use Rattle.nofs_gen.specs.Tally.{is_refused_line}
use Rattle.nofs_tool.proofs.OnDrill.Ends.{read-out}
use Rattle.nofs_tool.proofs.OnDrill.Follows.{read-cut, read-whole}
use Rattle.nofs_tool.proofs.OnDrill.Reads.{begun}
use Rattle.nofs_tool.proofs.drill.runs.read_and_close.Goals as goal

pub returns-clause-out : goal.returns-clause-out
returns-clause-out g c =
    let served = c.args.served in
    let done : c.close-closed.result ≡ true = search rules in
    let read = c.in-Ok.ensures.reads in
    read-out c.args.start c.args.steps
    (sum_by (count_by is_refused_line) served.lines.items) _ served.mount.core.books.history.entries _ _ _ _ _ _
    served.out_of_memory c.close-closed.result c.line_of.result _
    (ap (λ (h : HistoryState). h.entries) c.ended-2.ensures.history)
    (c.ended-2.ensures.text ∙ c.ok-text.ensures.value) c.if-out_of_memory.false done
    (ap (λ (l : List (List Line)). sum_by (count_by is_refused_line) l) c.deref.ensures.value) c.deref-2.ensures.value
    (ap (λ (h : HistoryState). h.entries) c.history.ensures)
    (read.made, read.adds, read.read) c.close-closed.ensures.adds c.line_of.ensures

pub returns-in-Err-clause-follows : goal.returns-in-Err-clause-follows
returns-in-Err-clause-follows g c = read-cut _ _ _ _ _ (ap (λ (h : HistoryState). h.entries) c.ended.ensures.history)
    c.ended.ensures.text (begun _ _ _ _ _ c.in-Err.ensures.reads)

pub returns-then-out_of_memory-clause-follows : goal.returns-then-out_of_memory-clause-follows
returns-then-out_of_memory-clause-follows g c = read-whole _ (λ reads. reads.items) true _ _ _ _ _ _ _
    (ap (λ (h : HistoryState). h.entries) c.ended-then-out_of_memory.ensures.history)
    (λ e. c.ended-then-out_of_memory.ensures.text) (λ e. absurd (cc)) c.in-Ok.ensures.reads c.close-closed.ensures.adds

pub returns-then-not-closed-clause-follows : goal.returns-then-not-closed-clause-follows
returns-then-not-closed-clause-follows g c = read-whole _ (λ reads. reads.items) true _ _ _ _ _ _ _
    (ap (λ (h : HistoryState). h.entries) c.ended-then-not-closed.ensures.history)
    (λ e. c.ended-then-not-closed.ensures.text) (λ e. absurd (cc)) c.in-Ok.ensures.reads c.close-closed.ensures.adds

pub returns-clause-follows : goal.returns-clause-follows
returns-clause-follows g c =
    let done : c.close-closed.result ≡ true = search rules in
    read-whole _ (λ reads. reads.items) false c.args.served.out_of_memory c.close-closed.result _ _ _ _ _
    (ap (λ (h : HistoryState). h.entries) c.ended-2.ensures.history) (λ e. absurd (cc))
    (λ e. (c.if-out_of_memory.false, done)) c.in-Ok.ensures.reads c.close-closed.ensures.adds
