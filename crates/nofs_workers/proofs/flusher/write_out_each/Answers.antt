use Rattle.std.proofs.Common.{◌≡◌, ◌∙◌, sym, subst, rules, is_err, true, false}
use Rattle.nofs_workers.specs.Flusher.{WroteOut}
use Rattle.nofs_workers.proofs.OnFlusher.{after-more, after-fault, after-all}
use Rattle.nofs_workers.proofs.flusher.write_out_each.Goals as goal

pub returns-then-is_err-clause-wrote : goal.returns-then-is_err-clause-wrote
returns-then-is_err-clause-wrote g c =
    let (made, after, goes) = c.loop.invariant in
    after-fault g.S.WritesOut.wrote c.loop.counter c.args.turns _ _ _ c.write_out-out.result after
    c.write_out-out.ensures.wrote c.loop-test.true
    (let e : is_err c.write_out-out.result ≡ true = sym c.is_err.ensures.value ∙ c.if-is_err.true in e)

pub loop-preserved : goal.loop-preserved
loop-preserved g c =
    let (made, after, goes) = c.loop.invariant in (
      c.write_out-out.ensures.made ∙ made,
      after-more g.S.WritesOut.wrote c.loop.counter _ _ _ c.write_out-out.result after c.write_out-out.ensures.wrote
          (let e : is_err c.write_out-out.result ≡ false = sym c.is_err.ensures.value ∙ c.if-is_err.false in e),
      g.met.S.Steps.goes_on _ _ _ goes c.write_out-out.ensures.goes,
    )

pub returns-clause-wrote : goal.returns-clause-wrote
returns-clause-wrote g c =
    let (made, after, goes) = c.loop.invariant in
    let is : c.loop.counter ≡ c.args.turns = search rules in
    subst (λ n. WroteOut g.S.WritesOut.wrote n c.args.steps.now c.loop.steps) is
    (after-all g.S.WritesOut.wrote c.loop.counter _ _ after)
