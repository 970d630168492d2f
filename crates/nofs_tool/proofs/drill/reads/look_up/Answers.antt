use Rattle.std.proofs.Common.{refl}
use Rattle.nofs_tool.specs.Drill.{IsNotBegun}
use Rattle.nofs_tool.proofs.OnDrill.Reads.{begun, failed, look-named, none-begun, reads-as}
use Rattle.nofs_tool.proofs.drill.reads.look_up.Goals as goal

pub returns-in_err-from_slice-clause-reads : goal.returns-in_err-from_slice-clause-reads
returns-in_err-from_slice-clause-reads g c =
    failed _ _ _ _ _ _ c.from_residual.ensures.1 (none-begun IsNotBegun _ _ refl refl)

pub returns-in_err-reply-clause-reads : goal.returns-in_err-reply-clause-reads
returns-in_err-reply-clause-reads g c = failed _ _ _ _ _ _ c.from_residual-in_err-reply.ensures.1
    (begun _ _ _ _ _ c.in_err-reply.ensures.reads)

pub returns-clause-reads : goal.returns-clause-reads
returns-clause-reads g c =
    reads-as _ _ _ _ _ _ _ _ (look-named _ _ _ _ _ _ _ c.in_ok-from_slice.ensures c.in_ok-reply.ensures.reads)
    (λ made read. (c.in_ok-reply.reply, read, c.found_in.ensures))
