use Rattle.std.proofs.Common.{ℕ, List, sym, ap, ◌∙◌}
use Rattle.nofs_history.specs.declared.machine.steps.Step.TheVariants as step
use Rattle.nofs_shared.proofs.OnIndex.Hits.{told-look}
use Rattle.nofs_shared.proofs.mount.steps.told.Goals as goal

pub returns-in-Look-clause-told : goal.returns-in-Look-clause-told
returns-in-Look-clause-told c = told-look c.args.index.now c.args.step.now c.in-Look.directory c.in-Look.generation
    c.as_slice.result.now c.found.result
    (c.in-Look.is
    ∙ ap (λ (name : List ℕ). step.Look c.in-Look.directory c.in-Look.generation name) (sym c.as_slice.ensures))
    c.found.ensures.finds c.found.ensures.good
