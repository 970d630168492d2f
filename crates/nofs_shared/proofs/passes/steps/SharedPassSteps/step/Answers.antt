use Rattle.std.proofs.Common.{refl}
use Rattle.nofs_shared.proofs.OnPasses.Batches.{seat-stays}
use Rattle.nofs_shared.proofs.OnPasses.Entries.{ran_owns, ran_made, step-ran}
use Rattle.nofs_shared.proofs.passes.steps.SharedPassSteps.step.Goals as goal

pub invariant_of-self : goal.invariant_of-self
invariant_of-self g c = record {
  of = c.with.ensures.of;
  own = ran_owns _ _ _ _ _ (step-ran _ _ _ _ _ c.with.ensures.ran) c.args.self.now.own;
}

pub returns-clause-made : goal.returns-clause-made
returns-clause-made g c = ran_made _ _ _ _ _ (step-ran _ _ _ _ _ c.with.ensures.ran)

pub returns-clause-fits : goal.returns-clause-fits
returns-clause-fits g c = c.with.ensures.ran.told.0.0.fits

pub returns-clause-goes : goal.returns-clause-goes
returns-clause-goes g c = (refl, refl, seat-stays _ _ _ _ c.with.ensures.ran)
