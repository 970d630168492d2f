use Rattle.std.proofs.Common.{inl, inr}
use Rattle.nofs.proofs.OnRuns.{err-same}
use Rattle.nofs.proofs.run_in_mirror.Goals as goal

pub returns-in-Ok-Both-clause-runs : goal.returns-in-Ok-Both-clause-runs
returns-in-Ok-Both-clause-runs g c = inl c.run_on_sides.ensures

pub returns-in-Ok-Lead-clause-runs : goal.returns-in-Ok-Lead-clause-runs
returns-in-Ok-Lead-clause-runs g c = inr c.run_on_sides-in-Ok-Lead.ensures

pub returns-in-Err-clause-runs : goal.returns-in-Err-clause-runs
returns-in-Err-clause-runs g c = inl (inr (inr (c.no_image.ensures.none (g.S.Source.state c.args.source.now))))

pub returns-in-Err-clause-failed : goal.returns-in-Err-clause-failed
returns-in-Err-clause-failed g c named =
    c.no_image.ensures.failed (g.S.Source.state c.args.source.now) (err-same _ _ _ c.in-Err.is named)
