use Rattle.nofs_agree.proofs.OnChain.{Passed}
use Rattle.nofs_agree.proofs.chain.any_agreed_link.Given as goal

abbrev pub invariant-loop-place : goal.invariant-loop-place
invariant-loop-place g l = Passed (g.D.Disk.state l.fn.disk) (g.D.Disk.state l.disk) l.known l.inode l.it l.last l.place
