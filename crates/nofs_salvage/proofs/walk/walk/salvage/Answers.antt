use Rattle.std.proofs.Common.{rules}
use Rattle.nofs_salvage.specs.Walk.Steps.{MakesReads, refusal_by}
use Rattle.nofs_salvage.proofs.OnWalk.Steps.{reads-on, answered-both}
use Rattle.nofs_salvage.proofs.OnReport.Trees.{report-is}
use Rattle.nofs_salvage.proofs.OnWalk.Refusals.{right-on, refused-right, ask-label}
use Rattle.nofs_salvage.proofs.OnWalk.Asks.{asks-none, met-label}
use Rattle.nofs_salvage.proofs.walk.walk.salvage.Goals as goal

pub returns-in_err-note_tree-clause-reads : goal.returns-in_err-note_tree-clause-reads
returns-in_err-note_tree-clause-reads g c =
    let last : MakesReads (g.S.Steps.made c.note_file.new.steps) (g.S.Steps.made c.note_tree.new.steps)
    (refusal_by c.from_residual-in_err-note_tree.result) =
    search rules in
    reads-on _ _ _ _ c.in_ok-note_file.ensures.reads last

pub returns-clause-reads : goal.returns-clause-reads
returns-clause-reads g c = reads-on _ _ _ _ c.in_ok-note_file.ensures.reads c.in_ok-note_tree.ensures.reads

pub returns-clause-report : goal.returns-clause-report
returns-clause-report g c = λ W a.
    let both = answered-both W _ _ _ _ _ c.in_ok-note_file.ensures.reads c.in_ok-note_tree.ensures.reads a in
    report-is W (g.R.NameRule.picks c.args.filter.now.rule) c.in_ok-findings.findings.report c.note_file.new.report
    c.note_tree.new.findings.report
    c.in_ok-findings.ensures.begins (c.in_ok-note_file.ensures.noted W both.0)
    (c.in_ok-note_tree.ensures.tree.noted W both.1)

pub returns-in_err-note_file-clause-refused : goal.returns-in_err-note_file-clause-refused
returns-in_err-note_file-clause-refused g c = λ W roots a.
    let last : MakesReads (g.S.Steps.made c.args.steps.now) (g.S.Steps.made c.note_file.new.steps)
    (refusal_by c.from_residual-in_err-note_file.result) =
    search rules in
    refused-right W.files _ _ _ last (c.note_file.ensures.right W a (ask-label W.files roots))

pub returns-in_err-note_tree-clause-refused : goal.returns-in_err-note_tree-clause-refused
returns-in_err-note_tree-clause-refused g c = λ W roots a.
    let last : MakesReads (g.S.Steps.made c.note_file.new.steps) (g.S.Steps.made c.note_tree.new.steps)
    (refusal_by c.from_residual-in_err-note_tree.result) =
    search rules in
    refused-right W.files _ _ _ (reads-on _ _ _ _ c.in_ok-note_file.ensures.reads last)
    (right-on W _ _ _ _ _ c.in_ok-note_file.ensures.reads c.note_tree.ensures.reads a
    (λ b. c.in_ok-note_file.ensures.right W b (ask-label W.files roots)) (λ b. c.note_tree.ensures.right W roots b))

pub returns-clause-agreed : goal.returns-clause-agreed
returns-clause-agreed g c = λ W a.
    let both = answered-both W _ _ _ _ _ c.in_ok-note_file.ensures.reads c.in_ok-note_tree.ensures.reads a in
    (c.in_ok-note_tree.ensures.tree.there W both.1, c.in_ok-note_file.ensures.there W both.0)

pub returns-in_err-note_file-clause-asks : goal.returns-in_err-note_file-clause-asks
returns-in_err-note_file-clause-asks g c = c.note_file.ensures.asks _ (asks-none _) (met-label _)

pub returns-in_err-note_tree-clause-asks : goal.returns-in_err-note_tree-clause-asks
returns-in_err-note_tree-clause-asks g c =
    c.note_tree.ensures.asks _ (c.in_ok-note_file.ensures.asks _ (asks-none _) (met-label _))

pub returns-clause-asks : goal.returns-clause-asks
returns-clause-asks g c = c.note_tree.ensures.asks _ (c.in_ok-note_file.ensures.asks _ (asks-none _) (met-label _))

pub returns-in_err-findings-clause-asks : goal.returns-in_err-findings-clause-asks
returns-in_err-findings-clause-asks g c = asks-none _
