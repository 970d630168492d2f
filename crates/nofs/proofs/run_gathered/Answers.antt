use Rattle.std.proofs.Common.{◌≡◌, ◌∙◌, ap, inl}
use Rattle.nofs.proofs.OnRuns.{runs-on}
use Rattle.nofs.proofs.run_gathered.Goals as goal

pub returns-in-Ok : goal.returns-in-Ok
returns-in-Ok g c =
    inl (runs-on _ _ _ _ _ _ _ (λ d. d.under.under ≡ c.args.disk) c.new-gathered.result c.tool_gathered.result.disk _ _
    c.tool_gathered.result.history (ap (λ d. d.under) c.new-gathered.ensures.under ∙ c.in-Ok.ensures.under)
    c.ended.ensures c.tool_gathered.ensures)
