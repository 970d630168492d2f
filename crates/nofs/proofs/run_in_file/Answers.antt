use Rattle.std.proofs.Common.{◌≡◌, inr}
use Rattle.nofs.proofs.OnRuns.{cached-or-not, err-same, gathered-or-not, ok-same}
use Rattle.nofs.proofs.run_in_file.Goals as goal

pub returns-then-image-clause-runs : goal.returns-then-image-clause-runs
returns-then-image-clause-runs g c =
    gathered-or-not _ _ _ _ _ _ _ _ (λ it. it.under.under ≡ c.in-Ok.image.disk) _ _ _ c.run_gathered.ensures
    (λ it is. ok-same c.args.image c.in-Ok.image (λ i. it.under.under ≡ i.disk) c.in-Ok.is is)

pub returns-else-image-clause-runs : goal.returns-else-image-clause-runs
returns-else-image-clause-runs g c =
    cached-or-not _ _ _ _ _ _ _ _ (λ d. d.under ≡ c.in-Ok.image.disk) _ _ _ c.run_cached.ensures
    (λ d is. ok-same c.args.image c.in-Ok.image (λ i. d.under ≡ i.disk) c.in-Ok.is is)

pub returns-in-Err-clause-runs : goal.returns-in-Err-clause-runs
returns-in-Err-clause-runs g c = inr (inr (c.no_image.ensures.none (g.S.Source.state c.args.source.now)))

pub returns-in-Err-clause-failed : goal.returns-in-Err-clause-failed
returns-in-Err-clause-failed g c named =
    c.no_image.ensures.failed (g.S.Source.state c.args.source.now) (err-same _ _ _ c.in-Err.is named)
