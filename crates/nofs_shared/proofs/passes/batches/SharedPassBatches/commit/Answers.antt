use Rattle.std.proofs.Common.{ℕ, ◌∙◌, sym, ap, subst, get_or}
use Rattle.nofs_turn.specs.Turn.{view_of}
use Rattle.nofs_history.specs.Steps.{Fits, with_made}
use Rattle.nofs_history.specs.declared.machine.steps.Step.{Step}
use Rattle.nofs_shared.specs.Passes.Entries.{own_steps}
use Rattle.nofs_shared.specs.Passes.Rooms.{LacksRoom}
use Rattle.nofs_scan.specs.Steps.Elements.{see_step}
use Rattle.nofs_shared.proofs.OnMount.Commits.{see-is}
use Rattle.nofs_shared.proofs.OnPasses.Batches.{same-see, step-lacks}
use Rattle.nofs_shared.proofs.passes.batches.SharedPassBatches.commit.Goals as goal

pub returns-clause-made : goal.returns-clause-made
returns-clause-made g c = c.commit.ensures.made ∙ ap (λ (s : Step). with_made (own_steps
    (view_of c.args.self.now.pass).mine) s c.commit.result)
    (same-see (g.V.Serves.kind_of c.args.evidence.now) (get_or (g.V.Serves.items_in c.args.evidence.now) c.args.at 0))

pub returns-clause-fits : goal.returns-clause-fits
returns-clause-fits g c = subst (λ (s : Step). Fits s c.commit.result)
    (same-see (g.V.Serves.kind_of c.args.evidence.now) (get_or
    (g.V.Serves.items_in c.args.evidence.now) c.args.at 0)) c.commit.ensures.fits

pub returns-clause-memory : goal.returns-clause-memory
returns-clause-memory g c = λ out.
    subst (λ (n : ℕ). LacksRoom g.V.Serves.room_in n (view_of c.commit.new.self.pass)) (sym c.commit.ensures.same.1)
    (step-lacks g.V.Serves.room_in c.args.self.now.caller
    (see_step (g.V.Serves.kind_of c.args.evidence.now) (get_or (g.V.Serves.items_in c.args.evidence.now) c.args.at 0))
    _ _ c.commit.result c.commit.ensures.ran
    (see-is (g.V.Serves.kind_of c.args.evidence.now) (get_or (g.V.Serves.items_in c.args.evidence.now) c.args.at 0))
    out)
