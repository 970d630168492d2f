use Rattle.std.proofs.Common.{rules, arith}
use Rattle.nofs_workers.proofs.OnSweep.{sweeps-none, sweeps-more, sweeps-short}
use Rattle.nofs_workers.proofs.sweep.sweep.Goals as goal

pub loop-place-init : goal.loop-place-init
loop-place-init g c =
    (sweeps-none (g.O.Course.has_item c.args.order.now) c.args.kind _, omega arith, g.met.S.Steps.goes_none _)

pub returns-then-sweep_batch-clause-swept : goal.returns-then-sweep_batch-clause-swept
returns-then-sweep_batch-clause-swept g c =
    let (swept, below, goes) = c.loop-place.invariant in
    sweeps-short (g.O.Course.has_item c.args.order.now) c.args.kind 0 _ _ _ _ (search rules)
    (sweeps-more (g.O.Course.has_item c.args.order.now) c.args.kind _ _ _ _ _ _ swept c.if-sweep_batch.ensures.swept)

pub loop-place-preserved : goal.loop-place-preserved
loop-place-preserved g c =
    let (swept, below, goes) = c.loop-place.invariant in (
      sweeps-more (g.O.Course.has_item c.args.order.now) c.args.kind _ _ _ _ _ _ swept c.if-sweep_batch.ensures.swept,
      search rules,
      g.met.S.Steps.goes_on _ _ _ goes c.if-sweep_batch.ensures.goes,
    )
