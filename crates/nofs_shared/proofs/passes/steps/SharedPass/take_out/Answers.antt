use Rattle.std.proofs.Common.{◌≡◌, List, ℕ, true, refl, sym, ap, subst}
use Rattle.nofs_history.specs.declared.machine.history.Entry1.{Entry1}
use Rattle.nofs_shared.specs.Passes.Entries.{all_by, own_steps}
use Rattle.nofs_shared.proofs.OnPasses.Batches.{looks-more, mine-stays, seat-stays}
use Rattle.nofs_shared.proofs.passes.steps.SharedPass.take_out.Goals as goal

pub invariant_of-self : goal.invariant_of-self
invariant_of-self g c = record {
  of = c.with.ensures.of;
  own = subst (λ (l : List (ℕ × Entry1)). all_by c.args.self.now.caller l ≡ true)
      (sym (mine-stays _ _ _ _ c.with.ensures.ran c.with.ensures.ran.told.0))
      c.args.self.now.own;
}

pub returns-clause-same : goal.returns-clause-same
returns-clause-same g c = (refl, refl, seat-stays _ _ _ _ c.with.ensures.ran)

pub returns-clause-made : goal.returns-clause-made
returns-clause-made g c = ap own_steps (mine-stays _ _ _ _ c.with.ensures.ran c.with.ensures.ran.told.0)

pub returns-clause-looked : goal.returns-clause-looked
returns-clause-looked g c = looks-more _ _ _ _ c.with.ensures.ran
