use Rattle.std.proofs.Common.{◌+◌, ◌*◌, ◌<◌, ◌≤◌}
use Rattle.nofs_bits.specs.Bits.{NoneInWords}
use Rattle.nofs_bits.proofs.next_in_words.Given as goal

abbrev pub invariant-loop-index : goal.invariant-loop-index
invariant-loop-index l =
    (l.first < 64) × (l.from ≤ l.index * 64 + l.first) × NoneInWords l.words l.from (l.index * 64 + l.first)
