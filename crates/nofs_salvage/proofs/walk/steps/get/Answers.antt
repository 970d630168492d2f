use Rattle.nofs_salvage.proofs.OnWalk.Answers.{got-is}
use Rattle.nofs_salvage.proofs.OnWalk.Steps.{get-reads}
use Rattle.nofs_salvage.proofs.OnWalk.Refusals.{get-right-one}
use Rattle.nofs_salvage.proofs.OnWalk.Asks.{asks-get, got-told}
use Rattle.nofs_salvage.proofs.walk.steps.get.Goals as goal

pub returns-clause-reads : goal.returns-clause-reads
returns-clause-reads g c = rw (c.told.ensures, c.step-reply.ensures.made)
    (get-reads _ c.args.at.inode c.args.at.generation c.args.slot c.step-reply.result)

pub returns-clause-got : goal.returns-clause-got
returns-clause-got g c = rw (c.told.ensures, c.step-reply.ensures.made)
    (got-is _ c.args.at.inode c.args.at.generation c.args.slot c.step-reply.result)

pub returns-clause-right : goal.returns-clause-right
returns-clause-right g c = λ W a ask.
    get-right-one W _ _ c.args.at c.args.slot ask
    (record { reply = c.step-reply.result; more = c.step-reply.ensures.made }) a

pub returns-clause-told : goal.returns-clause-told
returns-clause-told g c =
    rw (c.told.ensures, c.step-reply.ensures.made) (got-told _ c.args.at c.args.slot c.step-reply.result)

pub returns-clause-asks : goal.returns-clause-asks
returns-clause-asks g c =
    λ first size low asks met told. asks-get first _ _ c.args.at asks c.args.slot size low met told
    (record { reply = c.step-reply.result; more = c.step-reply.ensures.made })
