use Rattle.std.proofs.Common.{◌≡◌, ◌++◌, map, vec_len}
use Rattle.nofs_tool.proofs.session.serve.plans_of.Given as goal

abbrev pub invariant-loop-plans : goal.invariant-loop-plans
invariant-loop-plans l = map (λ p. p.commands) l.plans.items ++ l.scripts.items ≡ l.fn.session

abbrev pub decreases-loop-plans : goal.decreases-loop-plans
decreases-loop-plans l = vec_len l.scripts
