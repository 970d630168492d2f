use Rattle.std.proofs.Common.{◌≡◌, ◌+◌, ◌^◌, ◌<◌, rules, length}
use Rattle.nofs_history.specs.declared.machine.steps.ElementKind.TheVariants.{Inode}
use Rattle.nofs_workers.specs.Sweep.{IsOrdered}
use Rattle.nofs_workers.proofs.OnBatches.{filled-more, in-range}
use Rattle.nofs_workers.proofs.sweep.fill.Goals as goal

pub loop-at-preserved : goal.loop-at-preserved
loop-at-preserved g c =
    let (len, ordered, small) = c.loop-at.invariant in
    let within : c.loop-at.at < length c.loop-at.into = search rules in
    let kind = c.args.kind in (
      search rules,
      filled-more (λ k x. IsOrdered (g.O.Course.has_item c.args.order.now) kind (c.args.place + k) x) c.loop-at.into
          c.loop-at.at _ within ordered
          (c.item_at.result, c.item_at.ensures.item, c.number_of.ensures),
      filled-more (λ k x. kind ≡ Inode → x < 2 ^ 32) c.loop-at.into c.loop-at.at _ within small (λ is. search rules),
    )

pub returns-clause-in_range : goal.returns-clause-in_range
returns-clause-in_range g c =
    let (len, ordered, small) = c.loop-at.invariant in
    in-range c.args.kind c.loop-at.into (λ i lt. small i (search rules))
