use Rattle.std.proofs.Common.{◌-◌}
use Rattle.nofs_history.proofs.accepted.files.links.+empty_from.Given as goal

abbrev pub decreases-empty_from : goal.decreases-empty_from
decreases-empty_from l = 4 - l.at
