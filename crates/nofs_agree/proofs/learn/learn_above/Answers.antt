use Rattle.nofs_agree.proofs.OnKnown.{above-fails, above-goes}
use Rattle.nofs_agree.proofs.learn.learn_above.Goals as goal

pub returns-in_err-learn_link : goal.returns-in_err-learn_link
returns-in_err-learn_link g c =
    above-fails _ _ _ c.args.at.now c.args.known.now _ _ c.args.inode c.in_ok-it.it _ _ c.learn_link.result
    c.from_residual-in_err-learn_link.result _ c.loop-place.invariant c.learn_link.ensures c.in_err-learn_link.was
    c.from_residual-in_err-learn_link.ensures.0

pub loop-place-preserved : goal.loop-place-preserved
loop-place-preserved g c =
    above-goes _ _ _ c.args.at.now c.args.known.now _ _ c.args.inode c.in_ok-it.it _ _ c.learn_link.result
    c.loop-place.invariant c.learn_link.ensures
    c.in_ok-learn_link.was
