use Rattle.std.proofs.Common.{Ok, ap, ◌∙◌}
use Rattle.nofs_agree.proofs.OnChain.{passed-goes}
use Rattle.nofs_names.proofs.OnDrops.OtherNames.{none-left}
use Rattle.nofs_names.proofs.drops.other_names.has_agreed_link.Goals as goal

pub loop-place-preserved : goal.loop-place-preserved
loop-place-preserved g c =
    passed-goes _ _ _ c.args.known.now c.args.it.now.inode (record c.args.it.now.record { links = c.args.links.now })
    _ _ c.loop-place.place c.is_agreed_link.result c.loop-place.invariant
    c.is_agreed_link.ensures (c.in_ok-is_agreed_link.was ∙ ap Ok c.if-branch.false)

pub returns : goal.returns
returns g c = none-left _ _ c.args.known.now c.args.it.now.inode
    (record c.args.it.now.record { links = c.args.links.now })
    _ c.loop-place.place c.told-links c.loop-place.invariant c.loop-place-test.false
