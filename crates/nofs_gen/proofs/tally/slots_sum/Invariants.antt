use Rattle.std.proofs.Common.{◌≡◌, ◌+◌, drop}
use Rattle.nofs_gen.specs.Tally.{slots_sum}
use Rattle.nofs_gen.proofs.tally.slots_sum.Given as goal

abbrev pub invariant-loop-slot : goal.invariant-loop-slot
invariant-loop-slot l = l.total + slots_sum l.size l.slot (drop l.slot l.replies) ≡ slots_sum l.size 0 l.replies
