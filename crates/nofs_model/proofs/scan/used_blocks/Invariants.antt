use Rattle.std.proofs.Common.{◌≡◌, ◌<◌, ℕ, length}
use Rattle.nofs_bits.specs.Bits.{is_set}
use Rattle.nofs_model.specs.Owners.{is_used_block}
use Rattle.nofs_model.proofs.scan.used_blocks.Given as goal

abbrev pub invariant-loop-block : goal.invariant-loop-block
invariant-loop-block l = (length l.bits ≡ l.of.at.now.blocks)
    × ((p : ℕ) → p < l.block → is_set l.bits p ≡ is_used_block l.of.cells.now p)
