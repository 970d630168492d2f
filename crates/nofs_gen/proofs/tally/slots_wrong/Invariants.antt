use Rattle.std.proofs.Common.{◌≡◌, ◌+◌, drop}
use Rattle.nofs_gen.specs.Tally.{slots_wrong}
use Rattle.nofs_gen.proofs.tally.slots_wrong.Given as goal

abbrev pub invariant-loop-slot : goal.invariant-loop-slot
invariant-loop-slot l = l.total + slots_wrong l.values l.slot (drop l.slot l.replies) ≡ slots_wrong l.values 0 l.replies
