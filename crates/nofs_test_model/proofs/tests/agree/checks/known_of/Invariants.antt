use Rattle.std.proofs.Common.{◌≡◌, length}
use Rattle.nofs_test_model.proofs.tests.agree.checks.known_of.Given as goal

abbrev pub invariant-loop-inode : goal.invariant-loop-inode
invariant-loop-inode l = length l.all ≡ l.fn.inodes
