use Rattle.std.proofs.Common.{rules, ◌<◌, length}
use Rattle.nofs_gen.proofs.OnTally.{wrong-next}
use Rattle.nofs_gen.proofs.tally.slots_wrong.Goals as goal

pub loop-slot-preserved : goal.loop-slot-preserved
loop-slot-preserved c =
    let low : c.loop-slot.slot < length c.args.replies.now = search rules in
    wrong-next c.args.values.now c.loop-slot.slot _ _ _ _ c.args.replies.now c.index-replies-slot.result low
    c.index-replies-slot.is
    c.wrong_at-more.ensures c.in_ok-total.ensures c.loop-slot.invariant
