use Rattle.std.proofs.Common.{Ok, ap, ◌∙◌}
use Rattle.nofs_agree.proofs.OnChain.{parent-none, parent-some}
use Rattle.nofs_agree.proofs.chain.read_parent.Goals as goal

pub returns-in-None : goal.returns-in-None
returns-in-None g c =
    parent-none _ _ c.args.at.now c.args.directory.now c.first_link-link.result _ c.read_pair.result
    c.requires.record c.first_link-link.ensures
    c.read_pair.ensures (c.in_ok-read_pair.was ∙ ap Ok c.in-None.is)

pub returns-in-Some : goal.returns-in-Some
returns-in-Some g c =
    parent-some _ _ c.args.at.now c.args.directory.now c.first_link-link.result _ c.read_pair.result
    c.in-Some.record c.requires.record
    c.first_link-link.ensures c.read_pair.ensures (c.in_ok-read_pair.was ∙ ap Ok c.in-Some.is)
