use Rattle.nofs_tool.specs.Drill.{drill_session}
use Rattle.nofs_tool.proofs.OnSession.Serve.{plans-formed}
use Rattle.nofs_tool.proofs.OnDrill.Ends.{drill-session, plans-whole}
use Rattle.nofs_tool.proofs.drill.runs.drill_plans.Goals as goal

pub returns-clause-scripts : goal.returns-clause-scripts
returns-clause-scripts c = plans-whole (λ p. p.commands) _ _ _ _ _ _ _ _ _ c.in_ok-push_plan.ensures.scripts
    c.in_ok-push_plan-2.ensures.scripts
    c.in_ok-push_plan-3.ensures.scripts c.in_ok-push_plan-4.ensures.scripts c.new-plans.ensures.items

pub returns-clause-formed : goal.returns-clause-formed
returns-clause-formed c =
    let whole = plans-whole (λ p. p.commands) _ _ _ _ _ _ _ _ _ c.in_ok-push_plan.ensures.scripts
    c.in_ok-push_plan-2.ensures.scripts
    c.in_ok-push_plan-3.ensures.scripts c.in_ok-push_plan-4.ensures.scripts c.new-plans.ensures.items in
    plans-formed (λ p. p.commands) _ (drill_session c.args.start c.args.steps)
    (drill-session c.args.start c.args.steps) whole
