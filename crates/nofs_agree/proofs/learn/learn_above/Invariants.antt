use Rattle.nofs_agree.proofs.OnKnown.{Above}
use Rattle.nofs_agree.proofs.learn.learn_above.Given as goal

abbrev pub invariant-loop-place : goal.invariant-loop-place
invariant-loop-place g l =
    Above (g.D.Disk.state l.fn.disk) (g.D.Disk.state l.disk) l.at l.fn.known l.known l.inode l.it l.last
