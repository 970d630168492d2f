use Rattle.std.proofs.Common.{Ok, ap, ◌∙◌, arith}
use Rattle.nofs_agree.proofs.OnChain.{passed-ends, passed-found, passed-goes}
use Rattle.nofs_agree.proofs.chain.any_agreed_link.Goals as goal

pub returns-then-branch : goal.returns-then-branch
returns-then-branch g c =
    passed-found _ _ _ c.args.at.now c.args.known.now c.args.inode c.args.it.now _ _ c.loop-place.place
    c.is_agreed_link.result c.requires.record
    c.loop-place.invariant (omega (arith, c.loop-place-test.true))
    c.is_agreed_link.ensures (c.in_ok-is_agreed_link.was ∙ ap Ok c.if-branch.true)

pub loop-place-preserved : goal.loop-place-preserved
loop-place-preserved g c =
    passed-goes _ _ _ c.args.known.now c.args.inode c.args.it.now _ _ c.loop-place.place c.is_agreed_link.result
    c.loop-place.invariant
    c.is_agreed_link.ensures (c.in_ok-is_agreed_link.was ∙ ap Ok c.if-branch.false)

pub returns : goal.returns
returns g c =
    passed-ends _ _ c.args.at.now c.args.known.now c.args.inode c.args.it.now _ c.loop-place.place
    c.requires.record c.loop-place.invariant (omega arith)
