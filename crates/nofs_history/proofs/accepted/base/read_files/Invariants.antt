use Rattle.nofs_history.specs.Accepted.BaseFiles.{AreFiles}
use Rattle.nofs_history.proofs.accepted.base.read_files.Given as goal

abbrev pub invariant-loop-place : goal.invariant-loop-place
invariant-loop-place l = AreFiles l.base l.place l.files.items
