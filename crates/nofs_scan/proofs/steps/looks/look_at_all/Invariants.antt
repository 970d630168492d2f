use Rattle.nofs_scan.specs.Sights.Reads.{AreLast}
use Rattle.nofs_scan.proofs.OnSteps.Looks.{Looked}
use Rattle.nofs_scan.proofs.steps.looks.look_at_all.Given as goal

abbrev pub invariant-loop-place : goal.invariant-loop-place
invariant-loop-place g l =
    Looked (g.D.Disk.state l.fn.disk) l.at l.fn.known l.known (g.D.Disk.state l.disk) l.kind l.items l.place l.sights
    × AreLast (g.D.Disk.state l.disk) l.reads
