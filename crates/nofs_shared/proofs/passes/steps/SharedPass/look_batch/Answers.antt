use Rattle.std.proofs.Common.{◌≡◌, List, ℕ, true, refl, sym, ap, subst}
use Rattle.nofs_history.specs.declared.machine.history.Entry1.{Entry1}
use Rattle.nofs_shared.specs.Passes.Entries.{all_by, own_steps}
use Rattle.nofs_shared.proofs.OnPasses.Batches.{knows-looked, mine-stays, seat-stays}
use Rattle.nofs_shared.proofs.OnPasses.Entries.{ran-less}
use Rattle.nofs_shared.proofs.passes.steps.SharedPass.look_batch.Goals as goal

pub invariant_of-self : goal.invariant_of-self
invariant_of-self g c = record {
  of = c.with.ensures.of;
  own = subst (λ (l : List (ℕ × Entry1)). all_by c.args.self.now.caller l ≡ true)
      (sym (mine-stays _ _ _ _ c.with.ensures.ran c.with.ensures.ran.told.0.0))
      c.args.self.now.own;
}

pub returns-clause-same : goal.returns-clause-same
returns-clause-same g c = (refl, refl, seat-stays _ _ _ _ c.with.ensures.ran)

pub returns-clause-made : goal.returns-clause-made
returns-clause-made g c = ap own_steps (mine-stays _ _ _ _ c.with.ensures.ran c.with.ensures.ran.told.0.0)

pub returns-clause-asked : goal.returns-clause-asked
returns-clause-asked g c = c.with.ensures.ran.told.0.1

pub returns-clause-own : goal.returns-clause-own
returns-clause-own g c = knows-looked _ g.V.Serves.is_of _ _ _ c.with.ensures.ran c.with.ensures.ran.told.0.2

pub returns-clause-ran : goal.returns-clause-ran
returns-clause-ran g c = ran-less _ _ (λ f xs ys q t. (t.0.0, t.1)) c.with.ensures.ran
