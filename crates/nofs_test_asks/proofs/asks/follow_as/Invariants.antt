use Rattle.nofs_test_asks.proofs.asks.follow_as.Given as goal

abbrev pub invariant-loop-case : goal.invariant-loop-case
invariant-loop-case g l = g.S.Steps.goes l.fn.user l.user
