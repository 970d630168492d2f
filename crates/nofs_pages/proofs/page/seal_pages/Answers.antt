use Rattle.std.proofs.Common.{◌∙◌, arith, refl}
use Rattle.nofs_pages.proofs.OnRows.{length-next, pages-begin, pages-next}
use Rattle.nofs_pages.proofs.page.seal_pages.Goals as goal

pub loop-at-init : goal.loop-at-init
loop-at-init c = (refl, pages-begin c.args.areas.now c.args.first c.args.raw.now)

pub loop-at-preserved : goal.loop-at-preserved
loop-at-preserved c =
    let inv = c.loop-at.invariant in (
      length-next c.args.areas.now c.args.first c.loop-at.at c.loop-at.raw c.seal_one.new.raw
          c.seal_one.ensures (omega arith)
          (omega (arith, inv.0)) (omega arith) ∙ inv.0,
      pages-next c.args.areas.now c.args.first c.loop-at.at c.loop-at.raw c.seal_one.new.raw inv.1
          c.seal_one.ensures (omega arith)
          (omega (arith, inv.0)) (omega arith),
    )
