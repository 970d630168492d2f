use Rattle.std.proofs.Common.{Ok, ap, ◌∙◌}
use Rattle.nofs_agree.proofs.OnChain.{climb-goes, climb-none, climb-root, climb-special}
use Rattle.nofs_agree.proofs.chain.is_agreed_directory.Goals as goal

pub returns-then-is_root : goal.returns-then-is_root
returns-then-is_root g c = climb-root _ _ c.args.at.now c.args.known.now c.args.directory c.loop-agreed.here _
    c.loop-agreed.invariant c.if-is_root.ensures

pub returns-then-is_special : goal.returns-then-is_special
returns-then-is_special g c =
    climb-special _ _ c.args.at.now c.args.known.now c.args.directory c.loop-agreed.here _ c.loop-agreed.invariant
    c.if-is_root.ensures c.if-is_special.ensures

pub returns-in-None : goal.returns-in-None
returns-in-None g c =
    climb-none _ _ _ c.args.at.now c.args.known.now c.args.directory c.loop-agreed.here _ _ c.read_parent.result
    c.loop-agreed.invariant c.if-is_root.ensures
    c.if-is_special.ensures c.read_parent.ensures (c.in_ok-read_parent.was ∙ ap Ok c.in-None.is)

pub loop-agreed-preserved : goal.loop-agreed-preserved
loop-agreed-preserved g c =
    climb-goes _ _ _ c.args.at.now c.args.directory c.loop-agreed.here c.in-Some-2.parent _ _ c.read_parent.result
    c.loop-agreed.invariant
    c.if-is_root.ensures c.if-is_special.ensures c.read_parent.ensures (c.in_ok-read_parent.was ∙ ap Ok c.in-Some-2.is)
