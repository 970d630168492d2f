use Rattle.std.proofs.Common.{◌-◌}
use Rattle.nofs_history.proofs.accepted.files.file.FilesNow.+pairs_from.Given as goal

abbrev pub decreases-pairs_from : goal.decreases-pairs_from
decreases-pairs_from l = 4 - l.at
