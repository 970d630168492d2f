use Rattle.nofs_history.specs.Accepted.BaseFiles.{AreValues}
use Rattle.nofs_history.proofs.accepted.base.read_values.Given as goal

abbrev pub invariant-loop-slot : goal.invariant-loop-slot
invariant-loop-slot l = AreValues l.base l.inode l.slot l.values.items
