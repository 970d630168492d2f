use Rattle.std.proofs.Common.{sym, ◌∙◌}
use Rattle.nofs_tool.proofs.OnDrill.Reads.{none-asked, one-asked}
use Rattle.nofs_tool.proofs.drill.reads.ask.Goals as goal

pub returns-then-is_out_of_memory-clause-reads : goal.returns-then-is_out_of_memory-clause-reads
returns-then-is_out_of_memory-clause-reads g c =
    none-asked c.args.asked c.step-reply.result _ _ _ c.step-reply.ensures.tells.adds
    (sym c.is_out_of_memory.ensures ∙ c.if-is_out_of_memory.true)

pub returns-clause-reads : goal.returns-clause-reads
returns-clause-reads g c = one-asked c.args.asked c.step-reply.result _ _ c.requires c.step-reply.ensures.tells.adds
    (sym c.is_out_of_memory.ensures ∙ c.if-is_out_of_memory.false)
