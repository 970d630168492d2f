use Rattle.std.proofs.Common.{◌≡◌, inl}
use Rattle.nofs.proofs.OnRuns.{runs-on}
use Rattle.nofs.proofs.run_cached.Goals as goal

pub returns-in-Ok : goal.returns-in-Ok
returns-in-Ok g c =
    inl (runs-on _ _ _ _ _ _ _ (λ d. d.under ≡ c.args.disk) c.in-Ok.cached c.tool_cached.result.disk _ _
    c.tool_cached.result.history c.in-Ok.ensures.under c.ended.ensures c.tool_cached.ensures)
