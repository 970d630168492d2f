use Rattle.std.proofs.Common.{ℕ, List, sym, subst}
use Rattle.nofs_shared.specs.Index.Names.{Finds}
use Rattle.nofs_shared.proofs.index.Index.learn.Goals as goal

pub returns-in-Ok : goal.returns-in-Ok
returns-in-Ok c = λ F all finds. c.add.ensures F all
    (subst (λ (name : List ℕ). Finds F c.args.directory c.args.generation name c.args.found)
    (sym c.in-Ok.ensures) finds)
