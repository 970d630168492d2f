use Rattle.std.proofs.Common.{rules}
use Rattle.nofs_workers.proofs.OnSweep.{sweeps-batch}
use Rattle.nofs_workers.proofs.sweep.sweep_batch.Goals as goal

pub returns-clause-swept : goal.returns-clause-swept
returns-clause-swept g c =
    sweeps-batch (g.O.Course.has_item c.args.order.now) c.args.kind c.args.place c.args.count _ c.examine.result _
    _ (search rules)
    c.fill.ensures.ordered c.examine.ensures.made
