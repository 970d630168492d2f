use Rattle.std.proofs.Common.{◌≡◌, ◌<◌, ◌-◌, ◌++◌}
use Rattle.nofs_gen.specs.Script.{drawn}
use Rattle.nofs_gen.proofs.script.push_drawn.Given as goal

abbrev pub invariant-loop-at : goal.invariant-loop-at
invariant-loop-at l = (l.number < 2147483648)
    × (l.commands ++ drawn l.user l.number (l.steps - l.at) ≡ l.fn.commands ++ drawn l.user l.first l.steps)
