use Rattle.nofs_turn.specs.Turn.{IsPassOf}
use Rattle.nofs_test_formats.proofs.tests.turn.add_often.Given as goal

abbrev pub invariant-loop : goal.invariant-loop
invariant-loop g l = IsPassOf l.turn l.pass
