use Rattle.std.proofs.Common.{refl}
use Rattle.nofs_salvage.proofs.OnWalk.Slots.{noted-kept, noted-lost}
use Rattle.nofs_salvage.proofs.walk.slots.note_slot.Goals as goal

pub returns-in-Kept-clause-noted : goal.returns-in-Kept-clause-noted
returns-in-Kept-clause-noted g c =
    λ W a. noted-kept W c.args.at.inode c.args.slot c.args.report.now (rw c.in-Kept.is at (c.in_ok-get.ensures.got W a))

pub returns-in_ok-push-in-Lost-clause-noted : goal.returns-in_ok-push-in-Lost-clause-noted
returns-in_ok-push-in-Lost-clause-noted g c = λ W a.
    noted-lost W c.args.at.inode c.args.slot c.args.report.now c.push.new.self
    (rw c.in-Lost.is at (c.in_ok-get.ensures.got W a))
    c.in_ok-push-in-Lost.ensures.appended

pub returns-in-NoSlot-clause-noted : goal.returns-in-NoSlot-clause-noted
returns-in-NoSlot-clause-noted g c = λ W a. (rw c.in-NoSlot.is at (c.in_ok-get.ensures.got W a), refl)
