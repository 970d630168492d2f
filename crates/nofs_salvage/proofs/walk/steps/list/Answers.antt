use Rattle.nofs_salvage.proofs.OnWalk.Answers.{listed-is}
use Rattle.nofs_salvage.proofs.OnWalk.Refusals.{listed-there, listed-part, list-right}
use Rattle.nofs_salvage.proofs.OnWalk.Asks.{asks-list, list-gives}
use Rattle.nofs_salvage.proofs.walk.steps.list.Goals as goal

pub returns-clause-listed : goal.returns-clause-listed
returns-clause-listed g c = rw c.listed_in.ensures.is
    (listed-is _ _ c.args.at.inode c.args.at.generation c.args.slot c.in_ok-ask.field-0 c.in_ok-ask.ensures.accepted)

pub returns-clause-part : goal.returns-clause-part
returns-clause-part g c = rw c.listed_in.ensures.is
    (listed-part c.args.slot c.args.at.inode c.args.at.generation c.in_ok-ask.field-0 c.in_ok-ask.ensures.accepted.fits)

pub returns-clause-there : goal.returns-clause-there
returns-clause-there g c = rw c.listed_in.ensures.is
    (listed-there _ _ c.args.at.inode c.args.at.generation c.args.slot c.in_ok-ask.field-0 c.in_ok-ask.ensures.accepted)

pub returns-in_err-ask-clause-right : goal.returns-in_err-ask-clause-right
returns-in_err-ask-clause-right g c = λ W a ask. list-right W _ _ c.args.at c.args.slot ask c.ask.ensures.one a

pub returns-clause-right : goal.returns-clause-right
returns-clause-right g c = λ W a ask. list-right W _ _ c.args.at c.args.slot ask c.ask.ensures.one a

pub returns-clause-gives : goal.returns-clause-gives
returns-clause-gives g c =
    rw c.listed_in.ensures.is (list-gives _ _ c.args.at c.args.slot c.in_ok-ask.field-0 c.in_ok-ask.ensures.accepted)

pub returns-in_err-ask-clause-asks : goal.returns-in_err-ask-clause-asks
returns-in_err-ask-clause-asks g c =
    λ first asks met. asks-list first _ _ c.args.at asks c.args.slot met c.ask.ensures.one

pub returns-clause-asks : goal.returns-clause-asks
returns-clause-asks g c = λ first asks met. asks-list first _ _ c.args.at asks c.args.slot met c.ask.ensures.one
