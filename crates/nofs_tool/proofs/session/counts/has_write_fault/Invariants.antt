use Rattle.std.proofs.Common.{◌≡◌, ◌||◌, drop}
use Rattle.nofs_tool.specs.Session.Counts.{has_write_fault}
use Rattle.nofs_tool.proofs.session.counts.has_write_fault.Given as goal

abbrev pub invariant-loop-at : goal.invariant-loop-at
invariant-loop-at l =
    has_write_fault l.history.entries ≡ (l.found || has_write_fault (drop l.at l.history.entries))
