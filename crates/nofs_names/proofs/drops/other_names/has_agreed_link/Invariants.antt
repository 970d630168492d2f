use Rattle.nofs_agree.proofs.OnChain.{Passed}
use Rattle.nofs_names.proofs.drops.other_names.has_agreed_link.Given as goal

abbrev pub invariant-loop-place : goal.invariant-loop-place
invariant-loop-place g l = Passed (g.D.Disk.state l.fn.disk) (g.D.Disk.state l.disk) l.known l.it.inode
    (record l.it.record { links = l.links }) l.last l.place
