use Rattle.nofs_tool.proofs.OnDrill.Reads.{as-begun, begun, failed, file-begun, reads-as}
use Rattle.nofs_tool.proofs.drill.reads.push_read.Goals as goal

pub returns-in_err-read_file-clause-reads : goal.returns-in_err-read_file-clause-reads
returns-in_err-read_file-clause-reads g c =
    failed _ _ _ _ _ _ c.from_residual.ensures.1 (begun _ _ _ _ _ c.in_err-read_file.ensures.reads)

pub returns-in_err-push-clause-reads : goal.returns-in_err-push-clause-reads
returns-in_err-push-clause-reads g c = failed _ _ _ _ _ _ c.from_residual-in_err-push.ensures.1
    (as-begun _ _ _ _ _ _ c.in_ok-read_file.ensures.reads (file-begun c.args.user c.in_ok-read_file.field-0))

pub returns-clause-reads : goal.returns-clause-reads
returns-clause-reads g c = reads-as _ _ _ _ _ _ _ _ c.in_ok-read_file.ensures.reads
    (λ made read. (c.in_ok-read_file.field-0, c.in_ok-push.ensures.items, read))
