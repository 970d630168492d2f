use Rattle.std.proofs.Common.{◌∙◌, arith, refl}
use Rattle.nofs_pages.proofs.OnRows.{areas-begin, areas-next, told-begin, told-next}
use Rattle.nofs_pages.proofs.page.open_pages.Goals as goal

pub loop-at-init : goal.loop-at-init
loop-at-init c = (
  refl,
  areas-begin c.args.raw.now c.args.first c.args.to c.args.into.now,
  λ f. told-begin c.args.raw.now c.args.first,
)

pub loop-at-preserved : goal.loop-at-preserved
loop-at-preserved c =
    let inv = c.loop-at.invariant in (
      c.open_one.ensures.len ∙ inv.0,
      areas-next c.args.raw.now c.args.first c.loop-at.at c.args.to c.args.into.now c.loop-at.into c.open_one.new.into
          inv.1 (c.open_one.ensures.area c.if-not-open_one.false) (omega (arith, inv.0)) (omega arith),
      λ f. told-next c.args.raw.now c.args.first c.loop-at.at (inv.2 f)
          (c.open_one.ensures.told c.if-not-open_one.false f) (omega arith),
    )
