use Rattle.nofs_mirror.proofs.OnMirror.Reads.{lead_served, other_served}
use Rattle.nofs_mirror.proofs.mirror.Mirror.sides.Goals as goal

pub returns-clause-lead : goal.returns-clause-lead
returns-clause-lead g c = lead_served c.args.self.now

pub returns-clause-other : goal.returns-clause-other
returns-clause-other g c = other_served c.args.self.now
