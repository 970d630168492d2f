use Rattle.nofs_agree.proofs.OnKnown.{agreed-at-first, chain-learned}
use Rattle.nofs_agree.proofs.learn.learn_chain.Goals as goal

pub returns-clause-agreed : goal.returns-clause-agreed
returns-clause-agreed g c =
    agreed-at-first (g.D.Disk.state c.args.disk.now) (g.D.Disk.state c.learn_above.new.disk)
    c.args.known.now c.learn_above.new.known c.args.inode _ c.learn_above.ensures.stays c.learn_above.ensures.learns
    c.in_ok-agreed.ensures.agreed

pub returns-clause-learns : goal.returns-clause-learns
returns-clause-learns g c =
    chain-learned (g.D.Disk.state c.args.disk.now) (g.D.Disk.state c.learn_above.new.disk)
    (g.D.Disk.state c.check_chain.new.disk)
    c.args.known.now c.learn_above.new.known _ c.args.inode _ c.learn_above.ensures.stays c.learn_above.ensures.learns
    c.in_ok-agreed.ensures.agreed
    c.learn.ensures
