use Rattle.std.proofs.Common.{◌≡◌, ◌∙◌, ap, inr}
use Rattle.nofs.proofs.OnRuns.{cached-or-not, gathered-or-not}
use Rattle.nofs.proofs.run_on_sides.Goals as goal

pub returns-then-in_pages : goal.returns-then-in_pages
returns-then-in_pages g c =
    gathered-or-not _ _ _ _ _ _ _ _ (λ it. it.under.under ≡ c.in-Ok.mirror) _ _ _ c.run_gathered.ensures
    (λ it is. ap (λ m. m.opening.blocks) is ∙ c.in-Ok.ensures.opens.blocks)

pub returns-in-Ok : goal.returns-in-Ok
returns-in-Ok g c =
    cached-or-not _ _ _ _ _ _ _ _ (λ d. d.under ≡ c.in-Ok.mirror) _ _ _ c.run_mirrored.ensures
    (λ d is. ap (λ m. m.opening.blocks) is ∙ c.in-Ok.ensures.opens.blocks)

pub returns : goal.returns
returns g c = inr (inr (c.unopened.ensures (g.S.Source.state c.args.source.now)))
