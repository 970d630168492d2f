use Rattle.std.proofs.Common.{IfSome, Option, subst}
use Rattle.nofs_history.specs.declared.machine.replies.Found.{Found}
use Rattle.nofs_shared.specs.Index.Names.{Finds}
use Rattle.nofs_shared.proofs.index.Index.learn_some.Goals as goal

pub returns-in-Some : goal.returns-in-Some
returns-in-Some c = λ F all finds. c.learn.ensures F all
    (subst (λ (o : Option Found). IfSome o (λ it. Finds F c.args.directory c.args.generation c.args.name.now it))
    c.in-Some.is finds)
