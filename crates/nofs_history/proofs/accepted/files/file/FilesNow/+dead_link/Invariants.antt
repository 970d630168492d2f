use Rattle.std.proofs.Common.{◌-◌}
use Rattle.nofs_history.proofs.accepted.files.file.FilesNow.+dead_link.Given as goal

abbrev pub decreases-dead_link : goal.decreases-dead_link
decreases-dead_link l = 4 - l.at
