use Rattle.std.proofs.Common.{◌≡◌, ◌+◌, ◌<◌, ℕ, length}
use Rattle.nofs_bits.specs.Bits.{is_set}
use Rattle.nofs_model.specs.Owners.{is_used_inode}
use Rattle.nofs_model.proofs.scan.used_inodes.Given as goal

abbrev pub invariant-loop-place : goal.invariant-loop-place
invariant-loop-place l = (length l.bits ≡ l.of.at.now.inodes)
    × ((k : ℕ) → k < l.place → is_set l.bits k ≡ is_used_inode l.of.cells.now (k + 1))
