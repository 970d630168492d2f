use Rattle.std.proofs.Common.{◌≡◌, ℕ, ◌∙◌, ap, subst, sym, true}
use Rattle.nofs_turn.specs.Turn.{view_of}
use Rattle.nofs_history.specs.Steps.{Fits, with_made}
use Rattle.nofs_history.specs.declared.machine.steps.Step.{Step}
use Rattle.nofs_shared.specs.Acts.Sees.{is_see}
use Rattle.nofs_shared.specs.Passes.Entries.{own_steps}
use Rattle.nofs_shared.specs.Passes.Rooms.{LacksRoom}
use Rattle.nofs_shared.proofs.OnMount.Commits.{see-is}
use Rattle.nofs_shared.proofs.OnPasses.Batches.{same-see, step-lacks}
use Rattle.nofs_shared.proofs.passes.batches.SharedPassBatches.see.Goals as goal

pub returns-clause-made : goal.returns-clause-made
returns-clause-made g c = c.step.ensures.made ∙ ap (λ (s : Step). with_made (own_steps
    (view_of c.args.self.now.pass).mine) s c.step.result) c.see_of.ensures

pub returns-clause-fits : goal.returns-clause-fits
returns-clause-fits g c = subst (λ (s : Step). Fits s c.step.result) c.see_of.ensures c.step.ensures.fits

pub returns-clause-memory : goal.returns-clause-memory
returns-clause-memory g c = λ out.
    subst (λ (n : ℕ). LacksRoom g.V.Serves.room_in n (view_of c.step.new.self.pass)) (sym c.step.ensures.goes.1)
    (step-lacks g.V.Serves.room_in c.args.self.now.caller c.see_of.result _ _ c.step.result c.step.ensures.ran
    (subst (λ (s : Step). is_see s ≡ true) (same-see c.args.kind c.args.item ∙ sym c.see_of.ensures)
    (see-is c.args.kind c.args.item)) out)
