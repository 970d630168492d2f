use Rattle.nofs_agree.proofs.OnChain.{Climbed}
use Rattle.nofs_agree.proofs.chain.is_agreed_directory.Given as goal

abbrev pub invariant-loop-agreed : goal.invariant-loop-agreed
invariant-loop-agreed g l = Climbed (g.D.Disk.state l.fn.disk) (g.D.Disk.state l.disk) l.at l.fn.directory l.here l.last

abbrev pub decreases-loop-agreed : goal.decreases-loop-agreed
decreases-loop-agreed g l = l.here.record.generation
