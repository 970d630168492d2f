use Rattle.nofs_names.proofs.OnLinks.Directories.{Lives}
use Rattle.nofs_names.proofs.links.places.dead_place.Given as goal

abbrev pub invariant-loop-place : goal.invariant-loop-place
invariant-loop-place g l =
    Lives (g.D.Disk.state l.fn.disk) (g.D.Disk.state l.disk) l.known l.it.inode l.it.record l.last l.place
