use Rattle.std.proofs.Common.{refl}
use Rattle.nofs_shared.proofs.OnPasses.Batches.{seat-looked, seat-stays}
use Rattle.nofs_shared.proofs.OnPasses.Entries.{ran_made, step-ran, tried_owns}
use Rattle.nofs_shared.proofs.passes.steps.SharedPass.try_step.Goals as goal

pub invariant_of-self : goal.invariant_of-self
invariant_of-self g c = record {
  of = c.try_with.ensures.of;
  own =
      tried_owns _ _ (λ b. _) _ _ c.try_with.result
      (λ b. b.word) _ _ c.try_with.ensures.ran c.try_with.ensures.busy c.args.self.now.own;
}

pub returns-in-Ok-clause-made : goal.returns-in-Ok-clause-made
returns-in-Ok-clause-made g c =
    (ran_made _ _ _ _ _ (step-ran _ _ _ _ _ c.in-Ok.ensures.ran), c.in-Ok.ensures.ran.told.0.0.fits)

pub returns-in-Ok-clause-same : goal.returns-in-Ok-clause-same
returns-in-Ok-clause-same g c = (refl, refl, seat-stays _ _ _ _ c.in-Ok.ensures.ran)

pub returns-in-Err-clause-same : goal.returns-in-Err-clause-same
returns-in-Err-clause-same g c = (refl, refl, seat-looked _ _ _ c.in-Err.ensures.busy.2)
