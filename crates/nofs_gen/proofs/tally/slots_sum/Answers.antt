use Rattle.std.proofs.Common.{rules, ◌<◌, ◌+◌, ◌∙◌, ap, length, ℕ}
use Rattle.nofs_gen.specs.Tally.{slot_sum}
use Rattle.nofs_gen.proofs.OnTally.{sum-next}
use Rattle.nofs_gen.proofs.tally.slots_sum.Goals as goal

pub loop-slot-preserved : goal.loop-slot-preserved
loop-slot-preserved c =
    let low : c.loop-slot.slot < length c.args.replies.now = search rules in
    let more = c.in_ok-more.ensures ∙ ap (λ (n : ℕ). slot_sum n c.index-replies-slot.result) c.cut_at.ensures in
    sum-next c.args.size c.loop-slot.slot _ _ _ c.args.replies.now c.index-replies-slot.result low
    c.index-replies-slot.is
    (c.in_ok-total.ensures ∙ ap (λ (n : ℕ). c.loop-slot.total + n) more) c.loop-slot.invariant
