use Rattle.nofs_agree.proofs.OnKnown.{Keeps}
use Rattle.nofs_agree.proofs.learn.keep_way.Given as goal

abbrev pub invariant-loop-here : goal.invariant-loop-here
invariant-loop-here g l =
    Keeps (g.D.Disk.state l.fn.disk) (g.D.Disk.state l.disk) l.at l.fn.known l.known l.fn.directory l.here l.last

abbrev pub decreases-loop-here : goal.decreases-loop-here
decreases-loop-here g l = l.here.record.generation
