use Rattle.std.proofs.Common.{sym, ◌∙◌}
use Rattle.nofs_tool.specs.Drill.{AreSlotsBegun, IsReadAtBegun, IsWholeRead, stat_in}
use Rattle.nofs_tool.proofs.OnDrill.Reads.{begun, failed, reads-end, reads-more, step-unbegun}
use Rattle.nofs_tool.proofs.drill.reads.read_found.Goals as goal

pub returns-in_err-reply-clause-reads : goal.returns-in_err-reply-clause-reads
returns-in_err-reply-clause-reads g c = failed _ _ _ _ _ _ c.from_residual.ensures.1
    (step-unbegun stat_in (AreSlotsBegun c.args.found) _ _ _ (begun _ _ _ _ _ c.in_err-reply.ensures.reads))

pub returns-in-None-clause-reads : goal.returns-in-None-clause-reads
returns-in-None-clause-reads g c = reads-end stat_in (IsWholeRead c.args.found) (IsReadAtBegun c.args.found) _ _ _ _
    c.in_ok-reply.ensures.reads
    (sym c.stat_in.ensures ∙ c.in-None.is)

pub returns-clause-reads : goal.returns-clause-reads
returns-clause-reads g c = reads-more stat_in (IsWholeRead c.args.found) (AreSlotsBegun c.args.found) _ _ _ _ _ _ _
    c.in_ok-reply.ensures.reads
    (sym c.stat_in.ensures ∙ c.in-Some.is) c.read_whole.ensures.reads
