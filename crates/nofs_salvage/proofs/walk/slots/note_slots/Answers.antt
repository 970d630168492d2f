use Rattle.std.proofs.Common.{◌≡◌, ◌<◌, true, false, arith, rules}
use Rattle.nofs_history.specs.Machine.{slots_in}
use Rattle.nofs_salvage.specs.Walk.Steps.{MakesReads, refusal_by}
use Rattle.nofs_salvage.proofs.OnWalk.Steps.{reads-none, reads-on, answered-both}
use Rattle.nofs_salvage.proofs.OnWalk.Slots.{lost-none, noted-on, noted-end}
use Rattle.nofs_salvage.proofs.OnWalk.Refusals.{right-none, right-on}
use Rattle.nofs_salvage.proofs.OnWalk.Asks.{met-on}
use Rattle.nofs_salvage.proofs.walk.slots.note_slots.Goals as goal

pub loop-slot-init : goal.loop-slot-init
loop-slot-init g c = record {
  reads = reads-none _;
  goes = g.met.S.Steps.goes_none _;
  noted = λ W a. (omega arith, lost-none W.files c.args.at.inode c.args.report.now);
  right = λ W a ask. right-none W.files _;
  asks = λ first asks met told. asks;
  told = λ first told. told;
}

pub returns-in_err-note_slot-clause-reads : goal.returns-in_err-note_slot-clause-reads
returns-in_err-note_slot-clause-reads g c =
    let last : MakesReads (g.S.Steps.made c.loop-slot.steps) (g.S.Steps.made c.note_slot.new.steps)
    (refusal_by c.from_residual.result) = search rules in
    reads-on _ _ _ _ c.loop-slot.invariant.reads last

pub returns-then-not-branch-clause-reads : goal.returns-then-not-branch-clause-reads
returns-then-not-branch-clause-reads g c = reads-on _ _ _ _ c.loop-slot.invariant.reads c.in_ok-note_slot.ensures.reads

pub returns-then-not-branch-clause-noted : goal.returns-then-not-branch-clause-noted
returns-then-not-branch-clause-noted g c = λ W a.
    let both = answered-both W _ _ _ _ _ c.loop-slot.invariant.reads c.in_ok-note_slot.ensures.reads a in
    let end : c.in_ok-note_slot.field-0 ≡ false = grind arith in
    let low : c.loop-slot.slot < slots_in c.args.size = rw c.slots_in-slot-end.ensures at c.loop-slot-test.true in
    noted-end W c.args.at.inode (slots_in c.args.size) c.loop-slot.slot c.in_ok-note_slot.field-0 _ _ _ end low
    (c.loop-slot.invariant.noted W both.0)
    (c.in_ok-note_slot.ensures.noted W both.1)

pub loop-slot-preserved : goal.loop-slot-preserved
loop-slot-preserved g c =
    let more : c.in_ok-note_slot.field-0 ≡ true = grind arith in record {
      reads = reads-on _ _ _ _ c.loop-slot.invariant.reads c.in_ok-note_slot.ensures.reads;
      goes = g.met.S.Steps.goes_on _ _ _ c.loop-slot.invariant.goes c.note_slot.ensures.goes;
      noted = λ W a.
          let both = answered-both W _ _ _ _ _ c.loop-slot.invariant.reads c.in_ok-note_slot.ensures.reads a in
          noted-on W c.args.at.inode c.loop-slot.slot c.in_ok-note_slot.field-0 _ _ _ more
          (c.loop-slot.invariant.noted W both.0)
          (c.in_ok-note_slot.ensures.noted W both.1);
      right = λ W a ask. right-on W _ _ _ _ _ c.loop-slot.invariant.reads c.in_ok-note_slot.ensures.reads a
          (λ b. c.loop-slot.invariant.right W b ask) (λ b. c.in_ok-note_slot.ensures.right W b ask);
      asks = λ first asks met told.
          let low : c.loop-slot.slot < slots_in c.args.size = rw c.slots_in-slot-end.ensures at c.loop-slot-test.true in
          c.in_ok-note_slot.ensures.asks first c.args.size low (c.loop-slot.invariant.asks first asks met told)
          (met-on first _ _ _ c.args.at c.loop-slot.invariant.reads met) (c.loop-slot.invariant.told first told);
      told = λ first told. c.in_ok-note_slot.ensures.told first c.args.size more
          (c.loop-slot.invariant.told first told);
    }

pub returns-in_err-note_slot-clause-right : goal.returns-in_err-note_slot-clause-right
returns-in_err-note_slot-clause-right g c =
    λ W a ask. right-on W _ _ _ _ _ c.loop-slot.invariant.reads c.note_slot.ensures.reads a
    (λ b. c.loop-slot.invariant.right W b ask) (λ b. c.note_slot.ensures.right W b ask)

pub returns-then-not-branch-clause-right : goal.returns-then-not-branch-clause-right
returns-then-not-branch-clause-right g c =
    λ W a ask. right-on W _ _ _ _ _ c.loop-slot.invariant.reads c.note_slot.ensures.reads a
    (λ b. c.loop-slot.invariant.right W b ask) (λ b. c.note_slot.ensures.right W b ask)

pub returns-in_err-note_slot-clause-asks : goal.returns-in_err-note_slot-clause-asks
returns-in_err-note_slot-clause-asks g c = λ first asks met told.
    let low : c.loop-slot.slot < slots_in c.args.size = rw c.slots_in-slot-end.ensures at c.loop-slot-test.true in
    c.note_slot.ensures.asks first c.args.size low (c.loop-slot.invariant.asks first asks met told)
    (met-on first _ _ _ c.args.at c.loop-slot.invariant.reads met) (c.loop-slot.invariant.told first told)

pub returns-then-not-branch-clause-asks : goal.returns-then-not-branch-clause-asks
returns-then-not-branch-clause-asks g c = λ first asks met told.
    let low : c.loop-slot.slot < slots_in c.args.size = rw c.slots_in-slot-end.ensures at c.loop-slot-test.true in
    c.note_slot.ensures.asks first c.args.size low (c.loop-slot.invariant.asks first asks met told)
    (met-on first _ _ _ c.args.at c.loop-slot.invariant.reads met) (c.loop-slot.invariant.told first told)
