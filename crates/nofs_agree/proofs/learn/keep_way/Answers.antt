use Rattle.std.proofs.Common.{Ok, ap, ◌∙◌}
use Rattle.nofs_agree.proofs.OnKnown.{keeps-ends, keeps-fails, keeps-goes, keeps-none}
use Rattle.nofs_agree.proofs.learn.keep_way.Goals as goal

pub returns-then-is_root : goal.returns-then-is_root
returns-then-is_root g c =
    keeps-ends _ _ c.args.at.now c.args.known.now _ _ c.args.directory c.loop-here.here _ c.args.agreed
    c.requires.agreed c.loop-here.invariant c.learn.ensures

pub returns-then-is_special : goal.returns-then-is_special
returns-then-is_special g c =
    keeps-ends _ _ c.args.at.now c.args.known.now _ _ c.args.directory c.loop-here.here _ c.args.agreed
    c.requires.agreed c.loop-here.invariant c.learn.ensures

pub loop-here-preserved : goal.loop-here-preserved
loop-here-preserved g c =
    keeps-goes _ _ _ c.args.at.now c.args.known.now _ _ c.args.directory c.loop-here.here c.in-Some.parent _ _
    c.args.agreed c.read_parent.result
    c.requires.agreed c.loop-here.invariant
    c.learn.ensures c.if-is_root.ensures c.if-is_special.ensures c.read_parent.ensures (c.in_ok-read_parent.was
    ∙ ap Ok c.in-Some.is)

pub returns-in_err-read_parent : goal.returns-in_err-read_parent
returns-in_err-read_parent g c =
    keeps-fails _ _ _ c.args.at.now c.args.known.now _ _ c.args.directory c.loop-here.here _ _ c.args.agreed
    c.read_parent.result c.from_residual.result _
    c.requires.agreed c.loop-here.invariant
    c.learn.ensures c.read_parent.ensures c.in_err-read_parent.was c.from_residual.ensures.0

pub returns-in-None : goal.returns-in-None
returns-in-None g c =
    keeps-none _ _ _ c.args.at.now c.args.known.now _ _ c.args.directory c.loop-here.here _ _ c.args.agreed
    c.read_parent.result c.requires.agreed
    c.loop-here.invariant
    c.learn.ensures c.read_parent.ensures (c.in_ok-read_parent.was ∙ ap Ok c.in-None.is)
