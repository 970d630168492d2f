use Rattle.nofs_salvage.proofs.OnWalk.Steps.{reads-on, answered-both}
use Rattle.nofs_salvage.proofs.OnWalk.Slots.{noted-size, on-ok}
use Rattle.std.proofs.Common.{false}
use Rattle.nofs_salvage.proofs.OnWalk.Refusals.{right-on}
use Rattle.nofs_salvage.proofs.OnWalk.Asks.{met-on}
use Rattle.nofs_salvage.proofs.walk.slots.note_file.Goals as goal

pub returns-clause-reads : goal.returns-clause-reads
returns-clause-reads g c = reads-on _ _ _ _ c.in_ok-size.ensures.reads c.note_slots.ensures.reads

pub returns-clause-noted : goal.returns-clause-noted
returns-clause-noted g c = on-ok c.note_slots.result (λ h W a.
    let both = answered-both W _ _ _ _ _ c.in_ok-size.ensures.reads c.note_slots.ensures.reads a in
    noted-size W c.args.at.inode c.in_ok-size.size _ _ (c.in_ok-size.ensures.size W both.0) (h W both.1))
    c.note_slots.ensures.noted

pub returns-clause-there : goal.returns-clause-there
returns-clause-there g c = on-ok c.note_slots.result (λ h W a.
    let both = answered-both W _ _ _ _ _ c.in_ok-size.ensures.reads c.note_slots.ensures.reads a in
    c.in_ok-size.ensures.there W both.0) c.note_slots.ensures.noted

pub returns-clause-right : goal.returns-clause-right
returns-clause-right g c = λ W a ask. right-on W _ _ _ _ _ c.in_ok-size.ensures.reads c.note_slots.ensures.reads a
    (λ b. c.in_ok-size.ensures.right W false b ask) (λ b. c.note_slots.ensures.right W b ask)

pub returns-clause-asks : goal.returns-clause-asks
returns-clause-asks g c = λ first asks met. c.note_slots.ensures.asks first (c.in_ok-size.ensures.asks first asks met)
    (met-on first _ _ _ c.args.at c.in_ok-size.ensures.reads met) (c.in_ok-size.ensures.told first asks)
