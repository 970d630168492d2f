use Rattle.std.proofs.Common.{subst}
use Rattle.nofs_history.specs.declared.machine.steps.Step.{Step}
use Rattle.nofs_shared.specs.Index.Names.{Answered}
use Rattle.nofs_shared.proofs.index.Index.learn_from.Goals as goal

pub returns-in-Look : goal.returns-in-Look
returns-in-Look c = λ F all answered. c.learn_some.ensures F all
    (c.found_in.ensures F c.in-Look.directory c.in-Look.generation _
    (subst (λ (s : Step). Answered s c.args.reply.now F) c.in-Look.is answered))

pub returns-in-Make : goal.returns-in-Make
returns-in-Make c = λ F all answered. c.learn_some-in-Make.ensures F all
    (c.made_in.ensures F c.in-Make.directory c.in-Make.generation _
    (subst (λ (s : Step). Answered s c.args.reply.now F) c.in-Make.is answered))

pub returns-in-Link : goal.returns-in-Link
returns-in-Link c = λ F all answered. c.learn_some-in-Link.ensures F all
    (c.linked_in.ensures F c.in-Link.directory c.in-Link.generation c.in-Link.inode c.in-Link.of _ c.in-Link.is
    answered)
