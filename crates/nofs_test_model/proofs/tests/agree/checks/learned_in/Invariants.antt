use Rattle.std.proofs.Common.{◌≡◌, length}
use Rattle.nofs_memdisk.specs.Parts.{memory_state}
use Rattle.nofs_agree.specs.Reads.{IsAt}
use Rattle.nofs_test_model.proofs.tests.agree.checks.learned_in.Given as goal

abbrev pub invariant-loop-inode : goal.invariant-loop-inode
invariant-loop-inode l = IsAt (memory_state l.disk) l.at × (length l.known ≡ l.at.inodes)
