use Rattle.std.proofs.Common.{arith}
use Rattle.nofs_tool.proofs.OnDrill.Reads.{failed, files-cut, files-more, files-none}
use Rattle.nofs_tool.proofs.drill.reads.read_files.Goals as goal

pub returns-in_err-push_read-clause-reads : goal.returns-in_err-push_read-clause-reads
returns-in_err-push_read-clause-reads g c = failed _ _ _ _ _ _ c.from_residual.ensures.1
    (files-cut _ 0 _ _ _ _ _ (omega arith) (files-none _ _ c.new-reads.ensures.items)
    c.in_err-push_read.ensures.reads)

pub returns-in_err-push_read-2-clause-reads : goal.returns-in_err-push_read-2-clause-reads
returns-in_err-push_read-2-clause-reads g c = failed _ _ _ _ _ _ c.from_residual-in_err-push_read-2.ensures.1
    (files-cut _ 1 _ _ _ _ _ (omega arith)
    (files-more _ 0 _ _ _ _ _ (files-none _ _ c.new-reads.ensures.items) c.in_ok-push_read.ensures.reads)
    c.in_err-push_read-2.ensures.reads)

pub returns-in_err-push_read-3-clause-reads : goal.returns-in_err-push_read-3-clause-reads
returns-in_err-push_read-3-clause-reads g c = failed _ _ _ _ _ _ c.from_residual-in_err-push_read-3.ensures.1
    (files-cut _ 2 _ _ _ _ _ (omega arith) (files-more _ 1 _ _ _ _ _
    (files-more _ 0 _ _ _ _ _ (files-none _ _ c.new-reads.ensures.items) c.in_ok-push_read.ensures.reads)
    c.in_ok-push_read-2.ensures.reads)
    c.in_err-push_read-3.ensures.reads)

pub returns-in_err-push_read-4-clause-reads : goal.returns-in_err-push_read-4-clause-reads
returns-in_err-push_read-4-clause-reads g c = failed _ _ _ _ _ _ c.from_residual-in_err-push_read-4.ensures.1
    (files-cut _ 3 _ _ _ _ _ (omega arith) (files-more _ 2 _ _ _ _ _
    (files-more _ 1 _ _ _ _ _
    (files-more _ 0 _ _ _ _ _ (files-none _ _ c.new-reads.ensures.items) c.in_ok-push_read.ensures.reads)
    c.in_ok-push_read-2.ensures.reads) c.in_ok-push_read-3.ensures.reads)
    c.in_err-push_read-4.ensures.reads)

pub returns-clause-reads : goal.returns-clause-reads
returns-clause-reads g c =
    let one = files-more _ 0 _ _ _ _ _ (files-none _ _ c.new-reads.ensures.items) c.in_ok-push_read.ensures.reads in
    let two = files-more _ 1 _ _ _ _ _ one c.in_ok-push_read-2.ensures.reads in
    let three = files-more _ 2 _ _ _ _ _ two c.in_ok-push_read-3.ensures.reads in
    let (long, (made, adds, readings, read)) =
    files-more _ 3 _ _ _ _ _ three c.in_ok-push_read-4.ensures.reads in
    record { made = made; adds = adds; readings = readings; read = (long, read) }
