use Rattle.std.proofs.Common.{◌+◌, ◌*◌, ◌∙◌, arith, ap, sym}
use Rattle.std.specs.Prelude.{slice_range}
use Rattle.nofs_pages.specs.Sums.{stripe_of}
use Rattle.nofs_pages.proofs.OnSums.{lanes-begin, lanes-next, sum-all}
use Rattle.nofs_pages.proofs.sum.sum_of.Goals as goal

pub loop-at-init : goal.loop-at-init
loop-at-init c = c.begin-lanes.ensures ∙ sym (lanes-begin c.args.seed c.args.bytes.now)

pub loop-at-preserved : goal.loop-at-preserved
loop-at-preserved c =
    let at = 32 * c.loop-at.at in
    c.take_stripe-lanes.ensures
    ∙ ap (λ l. stripe_of l (slice_range c.args.bytes.now at (at + 32))) c.loop-at.invariant
    ∙ sym (lanes-next c.args.seed c.args.bytes.now c.loop-at.at)

pub returns : goal.returns
returns c =
    c.end.ensures
    ∙ sum-all c.args.seed c.args.bytes.now c.loop-at.lanes c.loop-at.at c.loop-at.invariant (omega arith)
