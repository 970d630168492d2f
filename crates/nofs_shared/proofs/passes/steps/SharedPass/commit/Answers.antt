use Rattle.std.proofs.Common.{refl}
use Rattle.nofs_shared.proofs.OnPasses.Batches.{commit-ran, commit-step, knows-on, seat-stays}
use Rattle.nofs_shared.proofs.OnPasses.Entries.{ran_owns, ran_made, step-ran}
use Rattle.nofs_shared.proofs.passes.steps.SharedPass.commit.Goals as goal

pub invariant_of-self : goal.invariant_of-self
invariant_of-self g c = record {
  of = c.with.ensures.of;
  own = ran_owns _ _ _ _ _ (step-ran _ _ _ _ _
      (commit-step _ g.V.Serves.room_in _ _ _ _ _ c.with.ensures.ran)) c.args.self.now.own;
}

pub returns-clause-same : goal.returns-clause-same
returns-clause-same g c = (refl, refl, seat-stays _ _ _ _ c.with.ensures.ran)

pub returns-clause-made : goal.returns-clause-made
returns-clause-made g c = ran_made _ _ _ _ _ (step-ran _ _ _ _ _
    (commit-step _ g.V.Serves.room_in _ _ _ _ _ c.with.ensures.ran))

pub returns-clause-own : goal.returns-clause-own
returns-clause-own g c = knows-on _ (λ f xs ys p. g.V.Serves.is_of_more c.args.evidence.now f xs ys p) _ _
    (seat-stays _ _ _ _ c.with.ensures.ran)
    c.requires.own

pub returns-clause-right : goal.returns-clause-right
returns-clause-right g c = commit-ran _ g.V.Serves.room_in _ _ _ _ _ c.with.ensures.ran

pub returns-clause-ran : goal.returns-clause-ran
returns-clause-ran g c = commit-step _ g.V.Serves.room_in _ _ _ _ _ c.with.ensures.ran
