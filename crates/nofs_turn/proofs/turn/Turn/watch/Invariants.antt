use Rattle.nofs_turn.specs.Passes.{Waited}
use Rattle.nofs_turn.specs.Turn.{view_of, IsPassOf}
use Rattle.nofs_turn.proofs.turn.Turn.watch.Given as goal

abbrev pub invariant-loop : goal.invariant-loop
invariant-loop g l = record { of : IsPassOf l.self l.pass; waited : Waited (view_of l.fn.pass) (view_of l.pass) }
