use Rattle.nofs_mirror.proofs.OnMirror.Reads.{lead_served, other_served}
use Rattle.nofs_mirror.proofs.mirror.Mirror.apart.Goals as goal

pub returns-clause-lead_serves : goal.returns-clause-lead_serves
returns-clause-lead_serves g c = lead_served c.args.self

pub returns-clause-other_serves : goal.returns-clause-other_serves
returns-clause-other_serves g c = other_served c.args.self
