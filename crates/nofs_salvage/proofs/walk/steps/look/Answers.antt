use Rattle.nofs_salvage.proofs.OnWalk.Answers.{look-found}
use Rattle.nofs_salvage.proofs.OnWalk.Refusals.{look-there, look-right}
use Rattle.nofs_salvage.proofs.OnWalk.Asks.{asks-look, look-met}
use Rattle.nofs_salvage.proofs.walk.steps.look.Goals as goal

pub returns-clause-found : goal.returns-clause-found
returns-clause-found g c = rw c.found_in.ensures.is
    (look-found _ _ c.args.at.inode c.args.at.generation c.args.name c.in_ok-ask.field-0 c.in_ok-ask.ensures.accepted)

pub returns-clause-there : goal.returns-clause-there
returns-clause-there g c = rw c.found_in.ensures.is
    (look-there _ _ c.args.at.inode c.args.at.generation c.args.name c.in_ok-ask.field-0 c.in_ok-ask.ensures.accepted)

pub returns-in_err-ask-clause-right : goal.returns-in_err-ask-clause-right
returns-in_err-ask-clause-right g c =
    λ W folder a ask leads. look-right W _ _ c.args.at c.args.name folder ask leads c.ask.ensures.one a

pub returns-clause-right : goal.returns-clause-right
returns-clause-right g c =
    λ W folder a ask leads. look-right W _ _ c.args.at c.args.name folder ask leads c.ask.ensures.one a

pub returns-clause-met : goal.returns-clause-met
returns-clause-met g c = rw c.found_in.ensures.is
    (look-met _ _ c.args.at.inode c.args.at.generation c.args.name c.in_ok-ask.field-0 c.in_ok-ask.ensures.accepted)

pub returns-in_err-ask-clause-asks : goal.returns-in_err-ask-clause-asks
returns-in_err-ask-clause-asks g c =
    λ first asks given. asks-look first _ _ c.args.at asks c.args.name given c.ask.ensures.one

pub returns-clause-asks : goal.returns-clause-asks
returns-clause-asks g c = λ first asks given. asks-look first _ _ c.args.at asks c.args.name given c.ask.ensures.one
