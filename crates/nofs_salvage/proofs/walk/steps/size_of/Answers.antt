use Rattle.nofs_salvage.proofs.OnWalk.Answers.{size-is}
use Rattle.nofs_salvage.proofs.OnWalk.Refusals.{size-there, stat-right}
use Rattle.nofs_salvage.proofs.OnWalk.Asks.{asks-stat, stat-told}
use Rattle.nofs_salvage.proofs.walk.steps.size_of.Goals as goal

pub returns-clause-size : goal.returns-clause-size
returns-clause-size g c = rw c.size_in.ensures.is
    (size-is _ _ c.args.at.inode c.args.at.generation c.in_ok-ask.field-0 c.in_ok-ask.ensures.accepted)

pub returns-clause-there : goal.returns-clause-there
returns-clause-there g c = rw c.size_in.ensures.is
    (size-there _ _ c.args.at.inode c.args.at.generation c.in_ok-ask.field-0 c.in_ok-ask.ensures.accepted)

pub returns-in_err-ask-clause-right : goal.returns-in_err-ask-clause-right
returns-in_err-ask-clause-right g c = λ W folder a ask. stat-right W _ _ c.args.at folder ask c.ask.ensures.one a

pub returns-clause-right : goal.returns-clause-right
returns-clause-right g c = λ W folder a ask. stat-right W _ _ c.args.at folder ask c.ask.ensures.one a

pub returns-clause-told : goal.returns-clause-told
returns-clause-told g c =
    rw c.size_in.ensures.is (stat-told _ _ c.args.at c.in_ok-ask.field-0 c.in_ok-ask.ensures.accepted)

pub returns-in_err-ask-clause-asks : goal.returns-in_err-ask-clause-asks
returns-in_err-ask-clause-asks g c = λ first asks met. asks-stat first _ _ c.args.at asks met c.ask.ensures.one

pub returns-clause-asks : goal.returns-clause-asks
returns-clause-asks g c = λ first asks met. asks-stat first _ _ c.args.at asks met c.ask.ensures.one
